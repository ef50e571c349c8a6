use Rattle.std.proofs.Common.{drop}
use Rattle.scrib_types.specs.declared.profile.Profile.{Profile}
use Rattle.scrib_types.specs.GlobalView.{global_of, global_branches}
use Rattle.scrib_projection.specs.declared.project_role.ProjectionResult.{ProjectionResult}
use Rattle.scrib_projection.specs.Surveys.{IsProjectionResult, AreSeen}
use Rattle.scrib_projection.proofs.project_role.common_type.Given as goal

abbrev pub invariant-loop-global : goal.invariant-loop-global
invariant-loop-global l = (profile : Profile) (s : ProjectionResult) → IsProjectionResult profile l.role (global_of l.first) s
    → AreSeen profile l.role s (global_branches (drop l.global-index l.more)) → AreSeen profile l.role s (global_branches l.more)
