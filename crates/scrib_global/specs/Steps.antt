-- The continuation of a local type after one action, and after several (this project's own).
-- Only contracts of private functions cite this file.
use Rattle.std.specs.Prelude.{List, Option, Some, None}
use Rattle.scrib_types.specs.declared.event.Action.{Action}
use Rattle.scrib_types.specs.declared.local.Local.{Local}
use Rattle.scrib_types.specs.declared.message.Message.{Message}
use Rattle.scrib_types.specs.LocalView.{local_of}
use Rattle.scrib_types.specs.Trees.{LocalTree, LocalBranches}
use Rattle.scrib_types.specs.Traces.{LocalTransition, Offers}
use Rattle.scrib_global.specs.Simulation.{Leads}

-- the continuation after the action, or that the type cannot make it
abbrev pub Leaves : LocalTree → Action → Option Local → Type 0
Leaves l a None = (k : LocalTree) → LocalTransition l a k → ⊥
Leaves l a (Some next) = LocalTransition l a (local_of next)

-- the continuation of the branch with the message, or that no branch has it
abbrev pub Continues : LocalBranches → Message → Option Local → Type 0
Continues ls m None = (k : LocalTree) → Offers ls m k → ⊥
Continues ls m (Some next) = Offers ls m (local_of next)

-- what is left after the actions, one after another, or that the type cannot make them
abbrev pub LeavesAfter : LocalTree → List Action → Option Local → Type 0
LeavesAfter l w None = (k : LocalTree) → Leads l w k → ⊥
LeavesAfter l w (Some next) = Leads l w (local_of next)
