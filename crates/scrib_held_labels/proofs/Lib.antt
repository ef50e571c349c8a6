mod CarryLemmas
mod EntryLemmas
mod LabelLemmas
pub mod NameLemmas
mod OutputLemmas
mod SinkLemmas
mod StageLemmas
