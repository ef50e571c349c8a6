mod KeptLemmas
mod OffenceLemmas
mod ReportLemmas
mod StepLemmas
mod EntryLemmas
mod SweepLemmas
mod OutputLemmas
