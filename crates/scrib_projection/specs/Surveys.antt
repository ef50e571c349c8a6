-- The survey of a type for a role, and the result of projecting on the role.
use Rattle.std.specs.Prelude.{◌≡◌, ℕ, ◌-◌, ◌^◌, min, List, [], ◌∷◌, ◌++◌, Option, Some, None, option_map, option_and_then}
use Rattle.scrib_types.specs.declared.message.Message.{Message}
use Rattle.scrib_types.specs.declared.profile.Profile.{Profile}
use Rattle.scrib_types.specs.declared.local.Local.{Local}
use Rattle.scrib_types.specs.Trees.{GlobalTree, GlobalBranches, NoBranch, Branch, LocalBranches, NoChoice}
use Rattle.scrib_types.specs.LocalView.{local_of, local_branches}
use Rattle.scrib_types.specs.Projection.{open_depth, branches_open_depth, occurs, branches_occur, projection, branch_projections, merged}
use Rattle.scrib_projection.specs.Differences.{choice_count, branch_choice_count, differ, first_difference, first_among}
use Rattle.scrib_projection.specs.declared.survey.Survey.{Survey}
use Rattle.scrib_projection.specs.declared.project_role.ProjectionResult.{ProjectionResult}
use Rattle.scrib_projection.specs.declared.project_role.OwnBranches.{OwnBranches}
use Rattle.scrib_projection.specs.declared.project_role.OtherBranches.{OtherBranches}
use Rattle.scrib_projection.specs.Merging.{merged_after, differ_after}

-- the number, or the greatest of 64 bits where it is greater
abbrev pub capped : ℕ → ℕ
capped n = min n (2 ^ 64 - 1)

-- the survey of a type
pub record IsSurvey (profile : Profile) (r : List ℕ) (g : GlobalTree) (s : Survey) : Type 0 where
  pub depth : s.depth ≡ open_depth g
  pub occurring : s.occurs ≡ occurs r g
  pub counted : s.choice_count ≡ capped (choice_count g)
  pub differing : s.first ≡ option_map capped (first_difference profile r g)

-- the survey of branches
pub record IsBranchSurvey (profile : Profile) (r : List ℕ) (bs : GlobalBranches) (s : Survey) : Type 0 where
  pub depth : s.depth ≡ branches_open_depth bs
  pub occurring : s.occurs ≡ branches_occur r bs
  pub counted : s.choice_count ≡ capped (branch_choice_count bs)
  pub differing : s.first ≡ option_map capped (first_among profile r bs)

-- the survey and the projection of a type
pub record IsProjectionResult (profile : Profile) (r : List ℕ) (g : GlobalTree) (s : ProjectionResult) : Type 0 where
  pub survey : IsSurvey profile r g s.survey
  pub local : option_map local_of s.local ≡ projection profile r g

-- each branch has this result
abbrev pub AreSeen : Profile → List ℕ → ProjectionResult → GlobalBranches → Type 0
AreSeen profile r s NoBranch = Unit {0}
AreSeen profile r s (Branch m g bs) = IsProjectionResult profile r g s × AreSeen profile r s bs

-- the projected branches, as a pure tree
abbrev pub offered : Option (List (Message × Local)) → Option LocalBranches
offered bs = option_map local_branches bs

-- the survey and the projections of branches, for a role that is the sender or the receiver
pub record AreOwnBranches (profile : Profile) (r : List ℕ) (bs : GlobalBranches) (o : OwnBranches) : Type 0 where
  pub survey : IsBranchSurvey profile r bs o.survey
  pub locals : offered o.locals ≡ branch_projections profile r bs

-- the survey and the merge of branches, for any other role
pub record AreOtherBranches (profile : Profile) (r : List ℕ) (bs : GlobalBranches) (o : OtherBranches) : Type 0 where
  pub survey : IsBranchSurvey profile r bs o.survey
  pub merging : merged_after profile o.merge (Some NoChoice)
      ≡ option_and_then (merged profile) (branch_projections profile r bs)
  pub differing : differ_after profile o.merge (Some NoChoice) ≡ differ profile (branch_projections profile r bs)

-- one more branch, where all have projections
abbrev pub with_branch : Option (List (Message × Local)) → Message → Option Local → Option (List (Message × Local))
with_branch None m l = None
with_branch (Some bs) m None = None
with_branch (Some bs) m (Some l) = Some (bs ++ (m, l) ∷ [])
