use Rattle.std.proofs.Common.{drop}
use Rattle.scrib_types.specs.LocalView.{local_of, local_branches}
use Rattle.scrib_global.proofs.Branches.{SubstitutesSoFar}
use Rattle.scrib_global.proofs.unfold.+substitute.Given as goal

abbrev pub invariant-substitute_all-loop-message : goal.invariant-substitute_all-loop-message
invariant-substitute_all-loop-message l =
    SubstitutesSoFar (local_of l.body) l.done.items (local_branches (drop l.message-index l.branches)) l.depth (local_branches l.branches)
