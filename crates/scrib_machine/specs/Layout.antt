-- The layout of a local type in rows of edges. Only contracts of private functions cite this file.
use Rattle.std.specs.Prelude.{◌≡◌, ℕ, ◌+◌, ◌<◌, List, [], ◌∷◌, length, map, slice_get, Some, All, AllPairs}
use Rattle.std.specs.List.Sorted.{IsPermutation}
use Rattle.scrib_types.specs.declared.event.Action.{Action}
use Rattle.scrib_types.specs.declared.event.Action.TheVariants.{Sends, Receives}
use Rattle.scrib_types.specs.declared.message.Message.{Message}
use Rattle.scrib_types.specs.Judgement.{ComesBefore}
use Rattle.scrib_types.specs.Trees.{LocalTree, LocalEnd, LocalVar, LocalRec, Send, Recv, LocalBranches, NoChoice, Choice}
use Rattle.scrib_types.specs.Texts.{action_text}
use Rattle.scrib_machine.specs.declared.machine.Edge.{Edge}
use Rattle.scrib_machine.specs.declared.sorted.Printed.{Printed}

-- the number of its states: one for each end and each choice
abbrev mutual
  pub size : LocalTree → ℕ
  size LocalEnd = 1
  size (LocalVar k) = 0
  size (LocalRec body) = size body
  size (Send q ls) = sizes ls + 1
  size (Recv p ls) = sizes ls + 1

  pub sizes : LocalBranches → ℕ
  sizes NoChoice = 0
  sizes (Choice m l ls) = size l + sizes ls

-- the actions of the edges
abbrev pub actions_of : List Edge → List Action
actions_of es = map (λ (e : Edge). e.action) es

-- the edges that have their texts
abbrev pub printed_edges : List Printed → List Edge
printed_edges ps = map (λ (p : Printed). p.edge) ps

-- each text is that of its edge's action
abbrev pub AllPrinted : List Printed → Type 0
AllPrinted ps = All (λ (p : Printed). p.text.items ≡ action_text p.edge.action) ps

-- the edge of an action that leads to a state
abbrev pub edge_of : Action → ℕ → Edge
edge_of a k = record { action = a; next = k }

-- an edge for each branch, to the state at its index in the list
abbrev pub edges_of : (Message → Action) → LocalBranches → List ℕ → List Edge
edges_of f NoChoice ks = []
edges_of f (Choice m l ls) [] = []
edges_of f (Choice m l ls) (k ∷ ks) = edge_of (f m) k ∷ edges_of f ls ks

-- state n has these edges, sorted
pub record HasEdges (m : List (List Edge)) (n : ℕ) (f : Message → Action) (ls : LocalBranches) (ks : List ℕ)
    : Type 0 where
  pub edges : List Edge
  pub here : slice_get m n ≡ Some edges
  pub same : IsPermutation (edges_of f ls ks) edges
  pub sorted : AllPairs ComesBefore (actions_of edges)

-- The tree has the states from n on, and begins in state r. Its free variables are those of recursions that
-- begin in the states env, the innermost first.
abbrev mutual
  pub Laid : List (List Edge) → List ℕ → LocalTree → ℕ → ℕ → Type 0
  Laid m env LocalEnd n r = (r ≡ n) × (slice_get m n ≡ Some [])
  Laid m env (LocalVar k) n r = slice_get env k ≡ Some r
  Laid m env (LocalRec body) n r = Laid m (n ∷ env) body n r
  Laid m env (Send q ls) n r = (r ≡ n) × ((ks : List ℕ) × LaidAll m env ls (n + 1) ks × HasEdges m n (Sends q) ls ks)
  Laid m env (Recv p ls) n r = (r ≡ n) × ((ks : List ℕ) × LaidAll m env ls (n + 1) ks × HasEdges m n (Receives p) ls ks)

  -- the branches have the states from n on, one after another, and begin in the states ks
  pub LaidAll : List (List Edge) → List ℕ → LocalBranches → ℕ → List ℕ → Type 0
  LaidAll m env NoChoice n [] = Unit {0}
  LaidAll m env (Choice x l ls) n (k ∷ ks) = Laid m env l n k × LaidAll m env ls (n + size l) ks
  LaidAll m env _ n _ = ⊥

-- the states of the old rows have the same edges in the new rows
abbrev pub Kept : List (List Edge) → List (List Edge) → Type 0
Kept old new = (i : ℕ) → i < length old → slice_get new i ≡ slice_get old i

-- the tree was laid out after the old rows
pub record Placed (old new : List (List Edge)) (env : List ℕ) (l : LocalTree) (r : ℕ) : Type 0 where
  pub counted : length new ≡ length old + size l
  pub kept : Kept old new
  pub laid : Laid new env l (length old) r

-- the branches were laid out after the old rows
pub record PlacedAll (old new : List (List Edge)) (env : List ℕ) (ls : LocalBranches) (ks : List ℕ) : Type 0 where
  pub counted : length new ≡ length old + sizes ls
  pub kept : Kept old new
  pub laid : LaidAll new env ls (length old) ks
