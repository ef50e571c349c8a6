-- Traces of local types: the lists of sends and receptions that a role may make (Honda, Yoshida and Carbone,
-- POPL 2008).
use Rattle.std.specs.Prelude.{◌≡◌, ◌≢◌, ◌⊎◌, ℕ, ◌+◌, ◌==◌, List, [], ◌∷◌, if◌then◌else◌}
use Rattle.scrib_types.specs.declared.message.Message.{Message}
use Rattle.scrib_types.specs.declared.event.Action.{Action}
use Rattle.scrib_types.specs.declared.event.Action.TheVariants.{Sends, Receives}
use Rattle.scrib_types.specs.Trees.{LocalTree, LocalEnd, LocalVar, LocalRec, Send, Recv, LocalBranches, NoChoice, Choice}

-- substitutes l, in which no variable is free, for the variable of the n-th enclosing recursion
abbrev mutual
  pub substitute : LocalTree → LocalTree → ℕ → LocalTree
  substitute l LocalEnd n = LocalEnd
  substitute l (LocalVar k) n = if k == n then l else LocalVar k
  substitute l (LocalRec body) n = LocalRec (substitute l body (n + 1))
  substitute l (Send q ls) n = Send q (substitute_all l ls n)
  substitute l (Recv p ls) n = Recv p (substitute_all l ls n)

  pub substitute_all : LocalTree → LocalBranches → ℕ → LocalBranches
  substitute_all l NoChoice n = NoChoice
  substitute_all l (Choice m k ls) n = Choice m (substitute l k n) (substitute_all l ls n)

-- the unfolding of a recursion with this body
abbrev pub unfolding_of : LocalTree → LocalTree
unfolding_of body = substitute (LocalRec body) body 0

-- The first branch with the message continues as l. In the projections of a protocol the messages of a choice
-- differ, so no other branch has it.
abbrev pub Offers : LocalBranches → Message → LocalTree → Type 0
Offers NoChoice m l = ⊥
Offers (Choice n k ls) m l = ((m ≡ n) × (l ≡ k)) ⊎ ((m ≢ n) × Offers ls m l)

-- The first local type makes the action and continues as the second. A recursion has the transitions of its unfolding.
pub data LocalTransition : LocalTree → Action → LocalTree → Type 0 where
  sends : {q : List ℕ} {m : Message} {ls : LocalBranches} {l : LocalTree} → Offers ls m l
      → LocalTransition (Send q ls) (Sends q m) l
  receives : {p : List ℕ} {m : Message} {ls : LocalBranches} {l : LocalTree} → Offers ls m l
      → LocalTransition (Recv p ls) (Receives p m) l
  unfolds : {a : Action} {body l : LocalTree} → LocalTransition (unfolding_of body) a l
      → LocalTransition (LocalRec body) a l

-- the local type may make these actions, one after another
abbrev pub IsTrace : LocalTree → List Action → Type 0
IsTrace l [] = Unit {0}
IsTrace l (a ∷ w) = (k : LocalTree) × LocalTransition l a k × IsTrace k w
