pub mod HeldRuns
pub mod HeldLabels
pub mod WaitingLabels
pub mod Sinks
pub mod Stages
pub mod StageLaws
