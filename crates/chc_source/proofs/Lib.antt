pub mod Outsides
pub mod Fronts
pub mod Written
pub mod Gathered
