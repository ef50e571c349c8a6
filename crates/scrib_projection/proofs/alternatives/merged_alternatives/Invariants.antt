use Rattle.std.proofs.Common.{◌≡◌, drop}
use Rattle.scrib_types.specs.LocalView.{local_branches}
use Rattle.scrib_types.specs.Projection.{alternatives}
use Rattle.scrib_projection.proofs.alternatives.merged_alternatives.Given as goal

abbrev pub invariant-loop-message : goal.invariant-loop-message
invariant-loop-message l =
    alternatives (local_branches l.known) (local_branches (drop l.message-index l.more)) ≡ alternatives (local_branches l.fn.known) (local_branches l.more)
