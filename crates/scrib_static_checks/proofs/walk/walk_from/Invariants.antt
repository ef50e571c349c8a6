use Rattle.scrib_static_checks.proofs.Walks.{IsWalkFrom, work}
use Rattle.scrib_static_checks.proofs.walk.walk_from.Given as goal

abbrev pub invariant-loop-top : goal.invariant-loop-top
invariant-loop-top l = IsWalkFrom l.table.modules.now l.table.declared.now l.root l.states.items l.stack.items

abbrev pub decreases-loop-top : goal.decreases-loop-top
decreases-loop-top l = work l.states.items l.stack.items
