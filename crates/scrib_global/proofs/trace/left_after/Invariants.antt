use Rattle.std.proofs.Common.{drop}
use Rattle.scrib_types.specs.LocalView.{local_of}
use Rattle.scrib_global.proofs.Steps.{Remains}
use Rattle.scrib_global.proofs.trace.left_after.Given as goal

abbrev pub invariant-loop-action : goal.invariant-loop-action
invariant-loop-action l = Remains (local_of l.left) (drop l.action-index l.actions) (local_of l.fn.local) l.actions
