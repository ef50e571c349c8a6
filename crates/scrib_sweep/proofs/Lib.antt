pub mod TurnEffects
pub mod SweepSteps
pub mod ConversationSweeps
pub mod StaleLists
pub mod SweptLists
