pub mod SpelledLines
pub mod TextLines
pub mod PutTexts
pub mod FirstLines
mod Walks
mod Placements
mod LineGivings
mod Passings
mod StageLemmas
mod ClosingLemmas
mod RunLemmas
mod InputLemmas
