-- What the next step of a role means for the logs that are permitted (this project's own).
use Rattle.std.specs.Prelude.{◌≡◌, ◌≢◌, ◌↔◌, ℕ, true, ◌+◌, List, [], ◌∷◌, ◌++◌, Contains, map, Result, Ok, Err, Vec}
use Rattle.std.specs.Global.{Global}
use Rattle.std.specs.List.{AllByRecursion}
use Rattle.scrib_types.specs.declared.message.Message.{Message}
use Rattle.scrib_types.specs.declared.event.Action.{Action}
use Rattle.scrib_types.specs.declared.event.Action.TheVariants.{Join, Receives}
use Rattle.scrib_types.specs.declared.event.Event.{Event}
use Rattle.scrib_types.specs.Trees.{LocalTree, LocalEnd}
use Rattle.scrib_types.specs.Projection.{occurs}
use Rattle.scrib_types.specs.WellFormed.{has_role}
use Rattle.scrib_types.specs.Agreement.{Agreement}
use Rattle.scrib_types.specs.Permitted.{IsPermitted}
use Rattle.scrib_types.specs.Logs.{event_of, has_joined}
use Rattle.scrib_types.specs.Queues.{flights}
use Rattle.scrib_types.specs.Traces.{LocalTransition}
use Rattle.scrib_global.specs.declared.fault.ExplainFault.{ExplainFault}
use Rattle.scrib_global.specs.declared.fault.ExplainFault.TheVariants.{NotPermitted, OutOfMemory}
use Rattle.scrib_global.specs.declared.next.RoleNext.{RoleNext}
use Rattle.scrib_global.specs.declared.next.RoleNext.TheVariants.{MayJoin, Done, May, WaitsFor}
use Rattle.scrib_global.specs.declared.next.RoleStatus.{RoleStatus}
use Rattle.scrib_global.specs.Offences.{Offends}
use Rattle.scrib_global.specs.Next.{IsTypeAfter, IsNextOf}

-- the log is permitted with this action of the role after it
abbrev pub ComesNext : Agreement → List Event → List ℕ → Action → Type 0
ComesNext a log r act = IsPermitted a (log ++ event_of r act ∷ [])

-- the role joined, its local type is at its end, and no action of it comes next
pub record IsAtEnd (a : Agreement) (log : List Event) (r : List ℕ) : Type 0 where
  pub joined : has_joined r log ≡ true
  pub ended : IsTypeAfter a.global log r LocalEnd
  pub none : (act : Action) → ComesNext a log r act → ⊥

-- the role joined, and exactly these actions of it come next, one at least
pub record MayMake (a : Agreement) (log : List Event) (r : List ℕ) (acts : List Action) : Type 0 where
  pub joined : has_joined r log ≡ true
  pub some : acts ≢ []
  pub exact : (act : Action) → Contains acts act ↔ ComesNext a log r act

-- The role joined, and no action of it comes next. Its local type offers exactly these actions, one at least. All are
-- receptions from one role, from which no message to it is in flight.
pub record IsWaiting (a : Agreement) (log : List Event) (r : List ℕ) (acts : List Action) : Type 0 where
  pub joined : has_joined r log ≡ true
  pub none : (act : Action) → ComesNext a log r act → ⊥
  pub left : LocalTree
  pub after : IsTypeAfter a.global log r left
  pub some : acts ≢ []
  pub exact : (act : Action) → Contains acts act ↔ ((k : LocalTree) × LocalTransition left act k)
  pub sender : List ℕ
  pub receptions : (act : Action) → Contains acts act → (m : Message) × (act ≡ Receives sender m)
  pub empty : flights sender r log ≡ []

-- what the value means; a role may join exactly where the log with its join is permitted
abbrev pub Describes : Agreement → List Event → List ℕ → RoleNext → Type 0
Describes a log r (MayJoin acts) = ComesNext a log r Join × (acts ≡ occurs r a.global)
Describes a log r Done = IsAtEnd a log r
Describes a log r (May acts) = MayMake a log r acts
Describes a log r (WaitsFor acts) = IsWaiting a log r acts

-- the same value, but for the order of its actions
abbrev pub SameNext : RoleNext → RoleNext → Type 0
SameNext (MayJoin x) (MayJoin y) = x ≡ y
SameNext Done Done = Unit {0}
SameNext (May xs) (May ys) = (act : Action) → Contains xs act ↔ Contains ys act
SameNext (WaitsFor xs) (WaitsFor ys) = (act : Action) → Contains xs act ↔ Contains ys act
SameNext _ _ = ⊥

-- the value that is the role's has its meaning, and no other value has it
pub record HasOneNext (a : Agreement) (log : List Event) (r : List ℕ) : Type 0 where
  pub next : RoleNext
  pub is : IsNextOf a log r next
  pub described : Describes a log r next
  pub only : (other : RoleNext) → Describes a log r other → SameNext next other

-- After a permitted log each declared role may join, is done, may act or waits. Exactly one of these holds of it.
abbrev pub DeterminesNext : Agreement → Type 0
DeterminesNext a =
    (log : List Event) → IsPermitted a log → (r : List ℕ) → has_role r a.roles ≡ true → HasOneNext a log r

-- what this role may do next, and what that means
pub record IsStatus (a : Agreement) (log : List Event) (s : RoleStatus) : Type 0 where
  pub next : IsNextOf a log s.role s.next
  pub described : Describes a log s.role s.next

-- the log is permitted, and these are the declared roles, in order, each with what it may do next
pub record AreNext (a : Agreement) (log : List Event) (found : List RoleStatus) : Type 0 where
  pub permitted : IsPermitted a log
  pub listed : map (λ (s : RoleStatus). s.role) found ≡ a.roles
  pub each : AllByRecursion (IsStatus a log) found

-- what each role may do next, or the first offence; memory may be refused
abbrev pub FindsNext : Agreement → List Event → Result (Vec RoleStatus Global) ExplainFault → Type 0
FindsNext a log (Ok found) = AreNext a log found.items
FindsNext a log (Err (NotPermitted place)) = (i : ℕ) × (place ≡ i + 1) × Offends a log i
FindsNext a log (Err OutOfMemory) = Unit {0}
