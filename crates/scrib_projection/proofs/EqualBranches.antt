-- Branches that have the same result for a role.
use Rattle.std.proofs.Common.{◌≡◌, ℕ, ◌≤◌, ◌<◌, List, [], ◌∷◌, length, drop, not, Option, Some, None, is_some, option_map, option_and_then, if◌then◌else◌, refl, sym, ap, ◌∙◌, arith}
use Rattle.scrib_types.specs.declared.message.Message.{Message}
use Rattle.scrib_types.specs.declared.profile.Profile.{Profile}
use Rattle.scrib_types.specs.declared.profile.Profile.TheVariants.{Plain, Reception}
use Rattle.scrib_types.specs.declared.global.GlobalType.{GlobalType}
use Rattle.scrib_types.specs.declared.local.Local.{Local}
use Rattle.scrib_types.specs.Trees.{GlobalTree, GlobalBranches, NoBranch, Branch, LocalTree, LocalBranches, NoChoice, Choice}
use Rattle.scrib_types.specs.GlobalView.{global_of, global_branches}
use Rattle.scrib_types.specs.LocalView.{local_of}
use Rattle.scrib_types.specs.Projection.{projection, branch_projections, with_choice, merged, merged_with, merged_two, merged_receptions}
use Rattle.scrib_types.specs.Same.{same_local-refl}
use Rattle.scrib_projection.specs.Differences.{differ}
use Rattle.scrib_projection.specs.Surveys.{AreSeen, AreOtherBranches}
use Rattle.scrib_projection.specs.Merging.{merge_of, merged_after, differ_after}
use Rattle.scrib_projection.specs.declared.merge.Merge.{Merge}
use Rattle.scrib_projection.specs.declared.survey.Survey.{Survey}
use Rattle.scrib_projection.specs.declared.project_role.ProjectionResult.{ProjectionResult}
use Rattle.scrib_projection.proofs.SurveyedBranches.{IsSoFar, branches_end, end}

-- a type merges with itself
merged_itself : (profile : Profile) (l : LocalTree) → merged_two profile l l ≡ Some l
merged_itself Plain l = ap (λ b. if b then Some l else None) (same_local-refl l)
merged_itself Reception l = ap (λ b. if b then Some l else merged_receptions l l) (same_local-refl l)

module _ (profile : Profile) (r : List ℕ) (s : ProjectionResult) where
  -- the projections of branches with the same result, and their merge with that one
  alike_projections : (l : Local) → s.local ≡ Some l → (bs : GlobalBranches) → AreSeen profile r s bs → (ls : LocalBranches) × (branch_projections profile r bs ≡ Some ls) × (merged_with profile (local_of l) ls ≡ Some (local_of l))
  alike_projections l e NoBranch seen = (NoChoice, refl, refl)
  alike_projections l e (Branch m g bs) seen =
      let more = alike_projections l e bs seen.1 in
      let here : projection profile r g ≡ Some (local_of l) = sym seen.0.local ∙ ap (option_map local_of) e in (
        Choice m (local_of l) more.0,
        ap (λ o. with_choice m o (branch_projections profile r bs)) here ∙ ap (with_choice m (Some (local_of l))) more.1,
        ap (option_and_then (λ j. merged_with profile j more.0)) (merged_itself profile (local_of l)) ∙ more.2,
      )

  alike_merging : (m : Message) (g : GlobalTree) (bs : GlobalBranches) → AreSeen profile r s (Branch m g bs) → (o : Option Local) → s.local ≡ o → merged_after profile (merge_of o) (Some NoChoice) ≡ option_and_then (merged profile) (branch_projections profile r (Branch m g bs))
  alike_merging m g bs seen None e = sym (ap (λ x. option_and_then (merged profile) (with_choice m x (branch_projections profile r bs))) (sym seen.0.local ∙ ap (option_map local_of) e))
  alike_merging m g bs seen (Some l) e =
      let more = alike_projections l e bs seen.1 in
      let here : projection profile r g ≡ Some (local_of l) = sym seen.0.local ∙ ap (option_map local_of) e in
      sym
      (ap (λ x. option_and_then (merged profile) (with_choice m x (branch_projections profile r bs))) here
      ∙ ap (λ x. option_and_then (merged profile) (with_choice m (Some (local_of l)) x)) more.1
      ∙ more.2)

  alike_differing : (m : Message) (g : GlobalTree) (bs : GlobalBranches) → AreSeen profile r s (Branch m g bs) → (o : Option Local) → s.local ≡ o → differ_after profile (merge_of o) (Some NoChoice) ≡ differ profile (branch_projections profile r (Branch m g bs))
  alike_differing m g bs seen None e = sym (ap (λ x. differ profile (with_choice m x (branch_projections profile r bs))) (sym seen.0.local ∙ ap (option_map local_of) e))
  alike_differing m g bs seen (Some l) e =
      let more = alike_projections l e bs seen.1 in
      let here : projection profile r g ≡ Some (local_of l) = sym seen.0.local ∙ ap (option_map local_of) e in
      sym
      (ap (λ x. differ profile (with_choice m x (branch_projections profile r bs))) here
      ∙ ap (λ x. differ profile (with_choice m (Some (local_of l)) x)) more.1
      ∙ ap (λ x. not (is_some x)) more.2)

  -- branches with the same result, once all are surveyed
  pub alike_others : (bs : List (Message × GlobalType)) (i : ℕ) (survey : Survey) (merge : Merge) → 0 < length bs → length bs ≤ i → IsSoFar profile r (global_branches bs) (global_branches (drop i bs)) survey → AreSeen profile r s (global_branches bs) → merge ≡ merge_of s.local
      → AreOtherBranches profile r (global_branches bs) (record { survey = survey; merge = merge })
  alike_others [] i survey merge some far so seen e = absurd (omega arith)
  alike_others (b ∷ bs) i survey merge some far so seen e = record {
    survey = end profile r (global_branches (b ∷ bs)) (global_branches (drop i (b ∷ bs))) survey (branches_end (b ∷ bs) i far) so;
    merging = ap (λ m. merged_after profile m (Some NoChoice)) e ∙ alike_merging b.0 (global_of b.1) (global_branches bs) seen s.local refl;
    differing = ap (λ m. differ_after profile m (Some NoChoice)) e ∙ alike_differing b.0 (global_of b.1) (global_branches bs) seen s.local refl;
  }
