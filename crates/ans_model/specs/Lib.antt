pub mod Forms
pub mod Defining
pub mod Drafts
pub mod Drafted
pub mod Answers
pub mod Texts
pub mod Readable
pub mod Unlimited
