pub mod Values
pub mod Worlds
pub mod Defaults
pub mod Ranges
pub mod Arrays
pub mod Choices
pub mod Bases
