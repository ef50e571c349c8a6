pub mod Faults
pub mod Writes
