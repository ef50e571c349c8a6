use Rattle.std.proofs.Common.{drop}
use Rattle.scrib_types.specs.LocalView.{local_of, local_branches}
use Rattle.scrib_projection.specs.declared.alternatives.Fit.{Fit}
use Rattle.scrib_projection.proofs.AlternativeLemmas.{IsFit}
use Rattle.scrib_projection.proofs.alternatives.fit_of.Given as goal

abbrev pub invariant-loop-other : goal.invariant-loop-other
invariant-loop-other l =
    (f : Fit) → IsFit f l.message (local_of l.local) (local_branches (drop l.other-index l.known)) → IsFit f l.message (local_of l.local) (local_branches l.known)
