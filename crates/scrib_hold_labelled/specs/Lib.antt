pub mod WrittenLines
pub mod HeldLabelledScripts
pub mod WaitingLines
pub mod Sinks
pub mod Stages
pub mod StageLaws
