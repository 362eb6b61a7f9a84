pub mod Kinds
pub mod Numbers
pub mod Places
pub mod Readings
pub mod Traces
