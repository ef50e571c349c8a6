use Rattle.std.proofs.Common.{◌≡◌, drop}
use Rattle.scrib_types.specs.GlobalView.{global_branches}
use Rattle.scrib_types.specs.WellFormed.{has_operator}
use Rattle.scrib_type_builder.proofs.operators.has_operator.Given as goal

abbrev pub invariant-loop-message : goal.invariant-loop-message
invariant-loop-message l =
    has_operator l.op (global_branches (drop l.message-index l.branches)) ≡ has_operator l.op (global_branches l.branches)
