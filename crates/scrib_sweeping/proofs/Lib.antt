mod CountLemmas
mod StaleLemmas
mod ListLemmas
mod MonitorLemmas
mod StageLemmas
mod OutputLemmas
