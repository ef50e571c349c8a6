-- Machines as labelled transition systems (Keller, Communications of the ACM, 1976), and the machine of a local type.
-- A machine is the list of its states' edges, by the states' numbers from 0, and starts in state 0.
use Rattle.std.specs.Prelude.{◌≡◌, ◌↔◌, ◌<◌, ℕ, List, [], ◌∷◌, length, map, slice_get, Some, AllPairs, Contains}
use Rattle.scrib_types.specs.declared.event.Action.{Action}
use Rattle.scrib_types.specs.Judgement.{ComesBefore}
use Rattle.scrib_types.specs.Trees.{LocalTree, LocalRec}
use Rattle.scrib_types.specs.Traces.{unfolding_of, LocalTransition, IsTrace}
use Rattle.scrib_machine.specs.declared.machine.Edge.{Edge}
use Rattle.scrib_machine.specs.Compilable.{Closed}

-- the transition relation: an edge of state i leads by the action to state j
pub record Steps (m : List (List Edge)) (i : ℕ) (a : Action) (j : ℕ) : Type 0 where
  pub edges : List Edge
  pub here : slice_get m i ≡ Some edges
  pub there : Contains edges (record { action = a; next = j })

-- A machine has a start, and its edges lead to states. The edges of each state are sorted by the printed text of
-- their actions, no action twice.
pub record IsMachine (m : List (List Edge)) : Type 0 where
  pub some : 0 < length m
  pub within : (i j : ℕ) (a : Action) → Steps m i a j → j < length m
  pub sorted : (i : ℕ) (es : List Edge) → slice_get m i ≡ Some es
      → AllPairs ComesBefore (map (λ (e : Edge). e.action) es)

-- the second is the first with none or more of its leading recursions unfolded
pub data UnfoldsTo : LocalTree → LocalTree → Type 0 where
  as_is : {l : LocalTree} → UnfoldsTo l l
  unfolded : {body l : LocalTree} → UnfoldsTo (unfolding_of body) l → UnfoldsTo (LocalRec body) l

-- The machine is the transition system of the local type l. Each state has a closed local type, and the first has l.
-- A state has exactly the transitions of its type, and each leads to a state of the continuation. A type and its
-- unfolding share a state.
pub record IsSystemOf (l : LocalTree) (m : List (List Edge)) : Type 0 where
  pub type_of : ℕ → LocalTree
  pub closed : (i : ℕ) → i < length m → Closed (type_of i) 0
  pub first : UnfoldsTo l (type_of 0)
  pub sound : (i j : ℕ) (a : Action) → Steps m i a j
      → (k : LocalTree) × LocalTransition (type_of i) a k × UnfoldsTo k (type_of j)
  pub complete : (i : ℕ) (a : Action) (k : LocalTree) → i < length m → LocalTransition (type_of i) a k
      → (j : ℕ) × Steps m i a j × UnfoldsTo k (type_of j)

-- from state i the actions, one after another, lead to state j
abbrev pub Path : List (List Edge) → ℕ → List Action → ℕ → Type 0
Path m i [] j = i ≡ j
Path m i (a ∷ w) j = (k : ℕ) × Steps m i a k × Path m k w j

-- the machine's paths from its start are exactly the traces of the local type
abbrev pub HasTracesOf : LocalTree → List (List Edge) → Type 0
HasTracesOf l m = (w : List Action) → IsTrace l w ↔ ((j : ℕ) × Path m 0 w j)
