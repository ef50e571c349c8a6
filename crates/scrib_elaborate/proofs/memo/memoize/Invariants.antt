use Rattle.scrib_static_checks.specs.Table.{shown}
use Rattle.scrib_elaborate.specs.Typing.{IsMemo}
use Rattle.scrib_elaborate.proofs.memo.memoize.Given as goal

abbrev pub invariant-loop-place : goal.invariant-loop-place
invariant-loop-place l = IsMemo l.table.modules.now (shown l.table.declared.now) l.memo.items
