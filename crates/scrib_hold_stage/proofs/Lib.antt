mod Lists
mod EntryLemmas
mod HoldLemmas
mod ConversationLemmas
mod MapLemmas
mod HeldLemmas
mod FirstLemmas
mod DeadlineLemmas
mod StageLemmas
mod StepLemmas
mod TakeLemmas
mod FinishLemmas
mod PassLemmas
mod ClosingLemmas
pub mod HistoryLemmas
