pub mod Parts
pub mod Marks
pub mod Room
pub mod ValueTexts
pub mod Groups
pub mod HelperLaws
pub mod OneText
