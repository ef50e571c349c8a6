pub mod EntryLemmas
pub mod BesideLemmas
pub mod CarriedSteps
pub mod EditSteps
pub mod PartRuns
pub mod EditsOnce
pub mod WholeRuns
