-- The messages in flight in a state (this project's own).
use Rattle.std.specs.Prelude.{ℕ, List, [], ◌∷◌}
use Rattle.scrib_types.specs.declared.message.Message.{Message}
use Rattle.scrib_types.specs.declared.event.Event.{Event}
use Rattle.scrib_types.specs.declared.event.Event.TheVariants.{Sent}
use Rattle.scrib_types.specs.Trees.{GlobalTree, GlobalEnd, GlobalRec, Comm, Flight, GlobalBranches}
use Rattle.scrib_global.specs.Transitions.{IsBranch}

-- These sends are in flight on one path through the state, from its root on. At a communication the path takes any
-- branch, at a flight the branch that was sent. It stops at an end or a recursion.
pub data OnPath : GlobalTree → List Event → Type 0 where
  ends : OnPath GlobalEnd []
  repeats : {g : GlobalTree} → OnPath (GlobalRec g) []
  chooses : {p q : List ℕ} {j : ℕ} {m : Message} {g : GlobalTree} {bs : GlobalBranches} {w : List Event}
      → IsBranch bs j m g → OnPath g w → OnPath (Comm p q bs) w
  flies : {p q : List ℕ} {j : ℕ} {m : Message} {g : GlobalTree} {bs : GlobalBranches} {w : List Event}
      → IsBranch bs j m g → OnPath g w → OnPath (Flight p q j bs) (Sent p q m ∷ w)
