pub mod Edits
pub mod SweptRuns
pub mod SweptScripts
pub mod StaleLists
pub mod SweepingMonitors
