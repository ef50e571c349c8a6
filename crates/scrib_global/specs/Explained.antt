-- The result of explaining a log (this project's own).
use Rattle.std.specs.Prelude.{◌≡◌, ℕ, ◌+◌, false, ◌&&◌, List, [], map, Result, Ok, Err, Vec}
use Rattle.std.specs.List.{flat_map}
use Rattle.std.specs.Global.{Global}
use Rattle.scrib_types.specs.declared.message.Message.{Message}
use Rattle.scrib_types.specs.declared.event.Event.{Event}
use Rattle.scrib_types.specs.WellFormed.{has_role}
use Rattle.scrib_types.specs.Agreement.{Agreement}
use Rattle.scrib_types.specs.Queues.{flights}
use Rattle.scrib_global.specs.declared.explain.Flight.{Flight}
use Rattle.scrib_global.specs.declared.fault.ExplainFault.{ExplainFault}
use Rattle.scrib_global.specs.declared.fault.ExplainFault.TheVariants.{NotPermitted, OutOfMemory}
use Rattle.scrib_global.specs.Simulation.{IsJoinedRun, CarriesFlights, MayReceiveOldest}
use Rattle.scrib_global.specs.Offences.{Offends}

-- a message in flight from p to q
abbrev pub flight : List ℕ → List ℕ → Message → Flight
flight p q m = record { from = p; to = q; message = m }

-- the messages in flight from p to q after the log, the oldest first
abbrev pub in_flight : List ℕ → List ℕ → List Event → List Flight
in_flight p q log = map (flight p q) (flights p q log)

-- the messages in flight from p to each of the roles, in their order
abbrev pub in_flight_from : List ℕ → List (List ℕ) → List Event → List Flight
in_flight_from p roles log = flat_map (λ q. in_flight p q log) roles

-- the messages in flight after the log, by sender and then receiver
abbrev pub all_in_flight : List (List ℕ) → List Event → List Flight
all_in_flight roles log = flat_map (λ p. in_flight_from p roles log) roles

-- The log is a run with lawful joins, and these are its messages in flight, as in the state that the run reaches. None
-- are in flight but between declared roles. A role that awaits a message from another with messages to it in flight may
-- receive the oldest.
pub record IsExplained (a : Agreement) (log : List Event) (found : List Flight) : Type 0 where
  pub run : IsJoinedRun a log
  pub exact : found ≡ all_in_flight a.roles log
  pub elsewhere : (p q : List ℕ) → (has_role p a.roles && has_role q a.roles) ≡ false → flights p q log ≡ []
  pub carried : CarriesFlights log run.state
  pub oldest : MayReceiveOldest a log

-- the messages in flight, or the first offence; memory may be refused
abbrev pub Explains : Agreement → List Event → Result (Vec Flight Global) ExplainFault → Type 0
Explains a log (Ok found) = IsExplained a log found.items
Explains a log (Err (NotPermitted place)) = (i : ℕ) × (place ≡ i + 1) × Offends a log i
Explains a log (Err OutOfMemory) = Unit {0}
