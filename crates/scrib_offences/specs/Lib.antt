pub mod ExplainedOffences
pub mod Refusals
pub mod Participants
