pub mod Naming
pub mod Bound
pub mod Terms
