mod SplitLemmas
pub mod LineLemmas
pub mod NameLemmas
mod ExchangeLemmas
mod ItemLemmas
mod EntryLemmas
mod LineEndLemmas
mod RunLemmas
mod LastLineLemmas
mod PieceLemmas
mod EndLemmas
mod InputLemmas
mod OutputLemmas
mod ObjectLemmas
mod QueryLemmas
