pub mod Outcomes
pub mod Reading
pub mod Outputs
pub mod ConnectionResults
