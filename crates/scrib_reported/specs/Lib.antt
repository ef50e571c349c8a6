pub mod Kept
pub mod CountedCores
pub mod FoundOffences
pub mod ReportedReplies
pub mod ReportedRuns
pub mod Monitors
pub mod StageLaws
