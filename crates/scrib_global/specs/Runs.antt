-- Runs of a global type (this project's own).
use Rattle.std.specs.Prelude.{List, [], ◌∷◌}
use Rattle.scrib_types.specs.declared.event.Event.{Event}
use Rattle.scrib_types.specs.Trees.{GlobalTree}
use Rattle.scrib_global.specs.Transitions.{Transition}

-- the sends and receptions, one after another, take the first state to the last
pub data Run : GlobalTree → List Event → GlobalTree → Type 0 where
  stays : {g : GlobalTree} → Run g [] g
  goes : {e : Event} {g h k : GlobalTree} {w : List Event} → Transition g e h → Run h w k → Run g (e ∷ w) k
