pub mod Prefix
pub mod Helpers
pub mod Texts
pub mod Reach
pub mod Datatypes
pub mod Values
pub mod Script
