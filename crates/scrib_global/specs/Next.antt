-- What each role may do next after a log, from the local type that is left to it and the messages in flight to it (this
-- project's own).
use Rattle.std.specs.Prelude.{◌≡◌, ℕ, List, [], ◌∷◌, Option, Some, None, map, if◌then◌else◌}
use Rattle.std.specs.List.{AllByRecursion}
use Rattle.scrib_types.specs.declared.message.Message.{Message}
use Rattle.scrib_types.specs.declared.event.Action.{Action}
use Rattle.scrib_types.specs.declared.event.Action.TheVariants.{Sends, Receives}
use Rattle.scrib_types.specs.declared.event.Event.{Event}
use Rattle.scrib_types.specs.declared.local.Local.{Local}
use Rattle.scrib_types.specs.LocalView.{local_of}
use Rattle.scrib_types.specs.Trees.{GlobalTree, LocalTree, LocalEnd, LocalVar, LocalRec, Send, Recv, LocalBranches, NoChoice, Choice}
use Rattle.scrib_types.specs.Projection.{occurs, projection, widest}
use Rattle.scrib_types.specs.Agreement.{Agreement}
use Rattle.scrib_types.specs.Logs.{own_actions, has_joined}
use Rattle.scrib_types.specs.Queues.{flights}
use Rattle.scrib_global.specs.declared.next.RoleNext.{RoleNext}
use Rattle.scrib_global.specs.declared.next.RoleNext.TheVariants.{MayJoin, Done, May, WaitsFor}
use Rattle.scrib_global.specs.declared.next.RoleStatus.{RoleStatus}
use Rattle.scrib_global.specs.Simulation.{Leads}
use Rattle.scrib_global.specs.Unfolded.{acts_first}

-- the local type that is left to the role after the log: what its own actions leave of its projection
pub record IsTypeAfter (g : GlobalTree) (log : List Event) (r : List ℕ) (l : LocalTree) : Type 0 where
  pub start : LocalTree
  pub projected : projection widest r g ≡ Some start
  pub leads : Leads start (own_actions r log) l

-- a send to q of each message of the choice, in order
abbrev pub sends_of : List ℕ → LocalBranches → List Action
sends_of q NoChoice = []
sends_of q (Choice m l ls) = Sends q m ∷ sends_of q ls

-- a reception from p of each message of the choice, in order
abbrev pub receptions_of : List ℕ → LocalBranches → List Action
receptions_of p NoChoice = []
receptions_of p (Choice m l ls) = Receives p m ∷ receptions_of p ls

-- the first message, if there is one
abbrev pub oldest_of : List Message → Option Message
oldest_of [] = None
oldest_of (m ∷ w) = Some m

-- What a role may do that awaits one of these messages from p: it may receive the oldest in flight from p to it, or it
-- waits where none is.
abbrev pub next_reception : List ℕ → (oldest : Option Message) → LocalBranches → RoleNext
next_reception p None ls = WaitsFor (receptions_of p ls)
next_reception p (Some m) ls = May (Receives p m ∷ [])

-- what a role that joined may do, where this local type is left to it after the log
abbrev pub next_by_type : LocalTree → List ℕ → List Event → RoleNext
next_by_type LocalEnd r log = Done
next_by_type (LocalVar n) r log = Done
next_by_type (LocalRec body) r log = next_by_type body r log
next_by_type (Send q ls) r log = May (sends_of q ls)
next_by_type (Recv p ls) r log = next_reception p (oldest_of (flights p r log)) ls

-- what the role may do next after the log
abbrev pub IsNextOf : Agreement → List Event → List ℕ → RoleNext → Type 0
IsNextOf a log r next =
    (l : LocalTree) × IsTypeAfter a.global log r l
    × (next ≡ (if has_joined r log then next_by_type l r log else MayJoin (occurs r a.global)))

-- The rest of this file is cited by contracts of private functions, and by that of `type_left`.

-- the local type that is left to the role, or that there is none
abbrev pub IsTypeLeft : GlobalTree → List Event → List ℕ → Option Local → Type 0
IsTypeLeft g log r None = (l : LocalTree) → IsTypeAfter g log r l → ⊥
IsTypeLeft g log r (Some l) = IsTypeAfter g log r (local_of l)

-- what a role may do next, where the type that is left to it shows whether it acts
abbrev pub IsNextByType : GlobalTree → List Event → List ℕ → RoleNext → Type 0
IsNextByType g log r next =
    (l : LocalTree) → IsTypeAfter g log r l
    → next ≡ (if has_joined r log then next_by_type l r log else MayJoin (acts_first l))

-- the same of each of the roles, in their order
pub record AreNextByType (g : GlobalTree) (log : List Event) (roles : List (List ℕ)) (found : List RoleStatus)
    : Type 0 where
  pub listed : map (λ (s : RoleStatus). s.role) found ≡ roles
  pub each : AllByRecursion (λ (s : RoleStatus). IsNextByType g log s.role s.next) found
