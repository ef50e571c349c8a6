-- That a protocol permits exactly its runs (this project's own).
use Rattle.std.specs.Prelude.{◌≡◌, ◌↔◌, ℕ, true, List, [], ◌∷◌, ◌++◌, Some}
use Rattle.scrib_types.specs.declared.message.Message.{Message}
use Rattle.scrib_types.specs.declared.event.Action.{Action}
use Rattle.scrib_types.specs.declared.event.Action.TheVariants.{Receives}
use Rattle.scrib_types.specs.declared.event.Event.{Event}
use Rattle.scrib_types.specs.declared.event.Event.TheVariants.{Received}
use Rattle.scrib_types.specs.Trees.{GlobalTree, LocalTree}
use Rattle.scrib_types.specs.Projection.{projection, widest}
use Rattle.scrib_types.specs.Agreement.{Agreement}
use Rattle.scrib_types.specs.Permitted.{IsPermitted}
use Rattle.scrib_types.specs.Traces.{LocalTransition}
use Rattle.scrib_types.specs.Logs.{actions, own_actions, has_joined, AllJoined}
use Rattle.scrib_types.specs.Queues.{sent, flights}
use Rattle.scrib_global.specs.Runs.{Run}
use Rattle.scrib_global.specs.InFlight.{OnPath}

-- each role that acts joined beforehand, and the sends and receptions are a run of the global type
pub record IsJoinedRun (a : Agreement) (log : List Event) : Type 0 where
  pub joined : AllJoined a.roles log
  pub state : GlobalTree
  pub run : Run a.global (actions log) state

-- on each path through the state, the messages in flight between each two roles are those of the log
abbrev pub CarriesFlights : List Event → GlobalTree → Type 0
CarriesFlights log state = (w : List Event) → OnPath state w → (p q : List ℕ) → sent p q w ≡ flights p q log

-- the local type k is left of l after these actions
abbrev pub Leads : LocalTree → List Action → LocalTree → Type 0
Leads l [] k = l ≡ k
Leads l (a ∷ w) k = (j : LocalTree) × LocalTransition l a j × Leads j w k

-- after the log the role q, which joined, awaits a reception from p
pub record Awaits (a : Agreement) (log : List Event) (p q : List ℕ) : Type 0 where
  pub joined : has_joined q log ≡ true
  pub start : LocalTree
  pub projected : projection widest q a.global ≡ Some start
  pub now : LocalTree
  pub leads : Leads start (own_actions q log) now
  pub message : Message
  pub next : LocalTree
  pub receives : LocalTransition now (Receives p message) next

-- where a role awaits a reception from another that has messages to it in flight, it may receive the oldest
abbrev pub MayReceiveOldest : Agreement → List Event → Type 0
MayReceiveOldest a log =
    (p q : List ℕ) → Awaits a log p q → (m : Message) (w : List Message) → flights p q log ≡ m ∷ w
    → IsPermitted a (log ++ Received p q m ∷ [])

-- A log is permitted exactly where it is a run with lawful joins. The state that the run reaches has a path, and the
-- log's messages in flight. After a permitted log each role that awaits a message may receive the oldest.
pub record Simulates (a : Agreement) : Type 0 where
  pub exact : (log : List Event) → IsPermitted a log ↔ IsJoinedRun a log
  pub carries : (log : List Event) (state : GlobalTree) → Run a.global (actions log) state → CarriesFlights log state
  pub path : (log : List Event) (state : GlobalTree) → Run a.global (actions log) state
      → (w : List Event) × OnPath state w
  pub oldest : (log : List Event) → IsPermitted a log → MayReceiveOldest a log
