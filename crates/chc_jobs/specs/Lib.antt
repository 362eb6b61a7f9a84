pub mod Jobs
pub mod Answering
pub mod Lifting
pub mod LiftFaults
pub mod Lines
pub mod Commands
pub mod Runs
pub mod Refusals
