mod SplitLemmas
mod EntryLineLemmas
mod PairLemmas
mod RunLemmas
mod ReadingLemmas
mod ShownLemmas
mod Appended
