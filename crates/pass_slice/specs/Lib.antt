pub mod Choices
pub mod Slices
pub mod Tables
pub mod Undos
pub mod Voids
