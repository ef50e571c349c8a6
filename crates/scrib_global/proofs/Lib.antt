pub mod Names
mod Substitution
mod ProjectionLemmas
mod Locals
mod WiderTypes
mod FollowingTypes
mod TransitionLemmas
mod FlightPaths
mod EnabledEvents
mod Events
pub mod ProtocolFacts
pub mod Runs
mod LogPrefixes
mod Branches
mod Steps
mod Order
pub mod Candidates
pub mod JudgementLemmas
pub mod UndeclaredFlights
mod FlightLists
mod Samples
mod MovingStates
mod StartingTypes
mod Extensions
pub mod Completion
pub mod Progress
pub mod Draining
pub mod FormedTypes
pub mod OfferedActions
pub mod NextLogs
mod NextLemmas
mod NextLists
