pub mod ClosingLemmas
pub mod SendLemmas
mod MonitorLemmas
mod ClosingRunLemmas
mod InputLemmas
