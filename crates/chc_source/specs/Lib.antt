pub mod Outside
pub mod Output
pub mod Causes
pub mod Faults
pub mod Schedule
pub mod Store
pub mod Memory
pub mod MemorySink
