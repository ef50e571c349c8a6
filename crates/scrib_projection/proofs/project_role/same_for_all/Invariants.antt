use Rattle.std.proofs.Common.{ℕ, List, drop}
use Rattle.scrib_types.specs.declared.profile.Profile.{Profile}
use Rattle.scrib_types.specs.GlobalView.{global_branches}
use Rattle.scrib_projection.specs.Surveys.{AreSeen}
use Rattle.scrib_projection.proofs.SurveyedBranches.{IsSoFar}
use Rattle.scrib_projection.proofs.project_role.same_for_all.Given as goal

abbrev pub invariant-loop : goal.invariant-loop
invariant-loop l = (profile : Profile) (r : List ℕ) → AreSeen profile r l.outcome (global_branches l.branches)
    → IsSoFar profile r (global_branches l.branches) (global_branches (drop l.index l.branches)) l.survey × AreSeen profile r l.outcome (global_branches (drop l.index l.branches))
