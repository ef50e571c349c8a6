pub mod EntryLemmas
pub mod NumberedLemmas
pub mod LetOutLemmas
pub mod SinkLemmas
pub mod MonitorLemmas
mod ClosingLemmas
mod LineLemmas
mod RepliesLemmas
mod HeldRunLemmas
mod InputLemmas
