use Rattle.std.proofs.Common.{◌≡◌, ◌+◌, ◌*◌, drop, option_and_then}
use Rattle.scrib_types.specs.GlobalView.{global_of, global_branches}
use Rattle.scrib_types.specs.Nodes.{global_nodes, branch_nodes}
use Rattle.scrib_types.specs.Projection.{branch_projections, merged}
use Rattle.scrib_projection.specs.Differences.{differ}
use Rattle.scrib_projection.specs.Merging.{merged_after, differ_after}
use Rattle.scrib_projection.proofs.SurveyedBranches.{IsSoFar, offered_before}
use Rattle.scrib_projection.proofs.project_role.+project_role.Given as goal

abbrev pub invariant-project_branches-loop-message : goal.invariant-project_branches-loop-message
invariant-project_branches-loop-message l =
    let rest = global_branches (drop l.message-index l.branches) in
    record {
      surveyed : IsSoFar l.profile l.role (global_branches l.branches) rest l.survey;
      offered : offered_before l.locals (branch_projections l.profile l.role rest) ≡ branch_projections l.profile l.role (global_branches l.branches);
    }

abbrev pub invariant-merge_branches-loop-global : goal.invariant-merge_branches-loop-global
invariant-merge_branches-loop-global l =
    let rest = global_branches (drop l.global-index l.branches) in
    record {
      surveyed : IsSoFar l.profile l.role (global_branches l.branches) rest l.survey;
      merging : merged_after l.profile l.merge (branch_projections l.profile l.role rest) ≡ option_and_then (merged l.profile) (branch_projections l.profile l.role (global_branches l.branches));
      differing : differ_after l.profile l.merge (branch_projections l.profile l.role rest) ≡ differ l.profile (branch_projections l.profile l.role (global_branches l.branches));
    }

abbrev pub decreases-project_role : goal.decreases-project_role
decreases-project_role l = 2 * global_nodes (global_of l.global.now)

abbrev pub decreases-project_branches : goal.decreases-project_branches
decreases-project_branches l = 2 * branch_nodes (global_branches l.branches.now) + 1

abbrev pub decreases-merge_branches : goal.decreases-merge_branches
decreases-merge_branches l = 2 * branch_nodes (global_branches l.branches.now) + 1
