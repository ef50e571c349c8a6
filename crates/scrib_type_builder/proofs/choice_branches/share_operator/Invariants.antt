use Rattle.std.proofs.Common.{◌≡◌, drop}
use Rattle.scrib_types.specs.GlobalView.{global_branches}
use Rattle.scrib_static_checks.specs.Faults.{share_operator}
use Rattle.scrib_type_builder.proofs.choice_branches.share_operator.Given as goal

abbrev pub invariant-loop-message : goal.invariant-loop-message
invariant-loop-message l =
    share_operator (global_branches (drop l.message-index l.other)) (global_branches l.first.branches) ≡ share_operator (global_branches l.first.branches) (global_branches l.other)
