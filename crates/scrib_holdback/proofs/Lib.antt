mod OwnEvents
mod CausalOrders
mod PermittedOrders
pub mod Outcomes
pub mod FalseAlarmLemmas
mod Positions
mod FlightLemmas
mod SlotLemmas
mod ReleaseLemmas
mod WaitingLemmas
mod HoldbackLemmas
mod ExpiryLemmas
mod RunLemmas
