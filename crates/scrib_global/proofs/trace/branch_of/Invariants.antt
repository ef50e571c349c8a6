use Rattle.std.proofs.Common.{drop}
use Rattle.scrib_types.specs.LocalView.{local_branches}
use Rattle.scrib_global.proofs.Branches.{SameOffers}
use Rattle.scrib_global.proofs.trace.branch_of.Given as goal

abbrev pub invariant-loop-other : goal.invariant-loop-other
invariant-loop-other l = SameOffers (local_branches (drop l.other-index l.branches)) (local_branches l.branches) l.message
