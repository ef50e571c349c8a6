-- The branches of a communication, surveyed one after the other.
use Rattle.std.proofs.Common.{◌≡◌, ℕ, zero, suc, ◌≤◌, ◌<◌, ◌+◌, max, Bool, true, false, ◌||◌, List, [], ◌∷◌, ◌++◌, length, get_or, drop, Option, Some, None, option_map, refl, sym, ap, ◌∙◌, arith, add-one}
use Rattle.std.specs.Option.{option_or}
use Rattle.scrib_types.specs.declared.message.Message.{Message}
use Rattle.scrib_types.specs.declared.profile.Profile.{Profile}
use Rattle.scrib_types.specs.declared.global.GlobalType.{GlobalType}
use Rattle.scrib_types.specs.declared.local.Local.{Local}
use Rattle.scrib_types.specs.Trees.{GlobalTree, GlobalBranches, NoBranch, Branch, LocalTree, LocalBranches, NoChoice, Choice}
use Rattle.scrib_types.specs.GlobalView.{global_of, global_branches}
use Rattle.scrib_types.specs.LocalView.{local_of, local_branches}
use Rattle.scrib_types.specs.Projection.{open_depth, branches_open_depth, occurs, branches_occur, branch_projections, with_choice}
use Rattle.scrib_projection.specs.Differences.{choice_count, branch_choice_count, first_difference, first_among}
use Rattle.scrib_projection.specs.Surveys.{capped, IsBranchSurvey, IsProjectionResult, offered, with_branch}
use Rattle.scrib_projection.specs.Merging.{merged_after, differ_after}
use Rattle.scrib_projection.specs.declared.merge.Merge.{Merge}
use Rattle.scrib_projection.specs.declared.survey.Survey.{Survey}
use Rattle.scrib_projection.specs.declared.project_role.ProjectionResult.{ProjectionResult}

-- the listed branches, then the others
abbrev pub branches_before : List (Message × Local) → LocalBranches → LocalBranches
branches_before [] ls = ls
branches_before (b ∷ bs) ls = Choice b.0 (local_of b.1) (branches_before bs ls)

-- the same, where all of them have projections
abbrev pub offered_before : Option (List (Message × Local)) → Option LocalBranches → Option LocalBranches
offered_before None o = None
offered_before (Some bs) o = option_map (branches_before bs) o

-- the survey of the branches before the rest
pub record IsSoFar (profile : Profile) (r : List ℕ) (all rest : GlobalBranches) (s : Survey) : Type 0 where
  pub depth : max s.depth (branches_open_depth rest) ≡ branches_open_depth all
  pub occurring : (s.occurs || branches_occur r rest) ≡ branches_occur r all
  pub before : ℕ
  pub capping : s.choice_count ≡ capped before
  pub counted : before + branch_choice_count rest ≡ branch_choice_count all
  pub differing : option_or s.first (option_map (λ k. capped (before + k)) (first_among profile r rest)) ≡ option_map capped (first_among profile r all)

or_assoc : (a b c : Bool) → ((a || b) || c) ≡ (a || (b || c))
or_assoc true b c = refl
or_assoc false b c = refl

or_none : (a : Bool) → (a || false) ≡ a
or_none true = refl
or_none false = refl

max_assoc : (a b c : ℕ) → max (max a b) c ≡ max a (max b c)
max_assoc a b c = omega arith

max_none : (a : ℕ) → max a 0 ≡ a
max_none a = omega arith

capped_sum : (a b : ℕ) → capped (capped a + capped b) ≡ capped (a + b)
capped_sum a b = omega arith

capped_later : (a b c : ℕ) → capped (a + (b + c)) ≡ capped ((a + b) + c)
capped_later a b c = omega arith

-- the first of the branches before, of one more, and of the rest
first_step : (s g rest : Option ℕ) (before more joined : ℕ) → joined ≡ capped before → option_or (option_or s (option_map (λ k. capped (joined + k)) (option_map capped g))) (option_map (λ k. capped ((before + more) + k)) rest) ≡ option_or s (option_map (λ k. capped (before + k)) (option_or g (option_map (λ k. more + k) rest)))
first_step (Some a) g rest before more joined e = refl
first_step None (Some k) rest before more joined e = ap (λ j. Some (capped (j + capped k))) e ∙ ap Some (capped_sum before k)
first_step None None (Some k) before more joined e = ap Some (sym (capped_later before more k))
first_step None None None before more joined e = refl

first_begin : (o : Option ℕ) → option_map (λ k. capped (0 + k)) o ≡ option_map capped o
first_begin None = refl
first_begin (Some k) = let e : capped (0 + k) ≡ capped k = omega arith in ap Some e

before_push : (bs : List (Message × Local)) (b : Message × Local) (ls : LocalBranches) → branches_before (bs ++ b ∷ []) ls ≡ branches_before bs (Choice b.0 (local_of b.1) ls)
before_push [] b ls = refl
before_push (c ∷ bs) b ls = ap (Choice c.0 (local_of c.1)) (before_push bs b ls)

before_none : (bs : List (Message × Local)) → branches_before bs NoChoice ≡ local_branches bs
before_none [] = refl
before_none (c ∷ bs) = ap (Choice c.0 (local_of c.1)) (before_none bs)

pub offered_begin : (o : Option LocalBranches) → offered_before (Some []) o ≡ o
offered_begin None = refl
offered_begin (Some ls) = refl

offered_end : (o : Option (List (Message × Local))) → offered_before o (Some NoChoice) ≡ offered o
offered_end None = refl
offered_end (Some bs) = ap Some (before_none bs)

offered_step : (locals : Option (List (Message × Local))) (m : Message) (l : Option Local) (rest : Option LocalBranches) → offered_before (with_branch locals m l) rest ≡ offered_before locals (with_choice m (option_map local_of l) rest)
offered_step None m l rest = refl
offered_step (Some bs) m None rest = refl
offered_step (Some bs) m (Some l) None = refl
offered_step (Some bs) m (Some l) (Some ls) = ap Some (before_push bs (m, l) ls)

pub begin : (profile : Profile) (r : List ℕ) (all : GlobalBranches) (s : Survey) → s.depth ≡ 0 → s.occurs ≡ false → s.choice_count ≡ 0 → s.first ≡ None → IsSoFar profile r all all s
begin profile r all s d o j f = record {
  depth = ap (λ n. max n (branches_open_depth all)) d ∙ omega arith;
  occurring = ap (λ b. b || branches_occur r all) o;
  before = 0;
  capping = j;
  counted = omega arith;
  differing = ap (λ x. option_or x (option_map (λ k. capped (0 + k)) (first_among profile r all))) f ∙ first_begin (first_among profile r all);
}

-- the branch at this place
branches_drop' : (bs : List (Message × GlobalType)) (i : ℕ) (d : Message × GlobalType) → i < length bs → global_branches (drop i bs) ≡ Branch (get_or bs i d).0 (global_of (get_or bs i d).1) (global_branches (drop (suc i) bs))
branches_drop' [] i d h = absurd (omega arith)
branches_drop' (b ∷ bs) zero d h = refl
branches_drop' (b ∷ bs) (suc i) d h = let k : i < length bs = omega arith in branches_drop' bs i d k

pub branches_more : (bs : List (Message × GlobalType)) (i : ℕ) (b : Message × GlobalType) → i < length bs → b ≡ get_or bs i b → global_branches (drop i bs) ≡ Branch b.0 (global_of b.1) (global_branches (drop (i + 1) bs))
branches_more bs i b h is =
    rw add-one (branches_drop' bs i b h ∙ ap (λ (x : Message × GlobalType). Branch x.0 (global_of x.1) (global_branches (drop (suc i) bs))) (sym is))

-- no branches are left at the end
pub branches_end : (bs : List (Message × GlobalType)) (i : ℕ) → length bs ≤ i → global_branches (drop i bs) ≡ NoBranch
branches_end [] zero h = refl
branches_end [] (suc i) h = refl
branches_end (b ∷ bs) zero h = absurd (omega arith)
branches_end (b ∷ bs) (suc i) h = let k : length bs ≤ i = omega arith in branches_end bs i k

module _ (profile : Profile) (r : List ℕ) (rest : GlobalBranches) (m : Message) (g : GlobalTree) (outcome : ProjectionResult) (from : GlobalBranches) (is : from ≡ Branch m g rest) (seen : IsProjectionResult profile r g outcome) where
  -- one more branch is surveyed
  pub step : (all : GlobalBranches) (s t : Survey) → t.depth ≡ max s.depth outcome.survey.depth → t.occurs ≡ (s.occurs || outcome.survey.occurs) → t.choice_count ≡ capped (s.choice_count + outcome.survey.choice_count) → t.first ≡ option_or s.first (option_map (λ k. capped (s.choice_count + k)) outcome.survey.first) → IsSoFar profile r all from s → IsSoFar profile r all rest t
  step all s t d o j f so = record {
    depth = ap (λ n. max n (branches_open_depth rest)) (d ∙ ap (max s.depth) seen.survey.depth) ∙ max_assoc s.depth (open_depth g) (branches_open_depth rest) ∙ ap (λ bs. max s.depth (branches_open_depth bs)) (sym is) ∙ so.depth;
    occurring = ap (λ b. b || branches_occur r rest) (o ∙ ap (λ b. s.occurs || b) seen.survey.occurring) ∙ or_assoc s.occurs (occurs r g) (branches_occur r rest) ∙ ap (λ bs. s.occurs || branches_occur r bs) (sym is) ∙ so.occurring;
    before = so.before + choice_count g;
    capping = j ∙ ap (λ n. capped (n + outcome.survey.choice_count)) so.capping ∙ ap (λ n. capped (capped so.before + n)) seen.survey.counted ∙ capped_sum so.before (choice_count g);
    counted = let e : (so.before + choice_count g) + branch_choice_count rest ≡ so.before + (choice_count g + branch_choice_count rest) = omega arith in e ∙ ap (λ bs. so.before + branch_choice_count bs) (sym is) ∙ so.counted;
    differing =
        ap (λ x. option_or x (option_map (λ k. capped ((so.before + choice_count g) + k)) (first_among profile r rest))) (f ∙ ap (λ x. option_or s.first (option_map (λ k. capped (s.choice_count + k)) x)) seen.survey.differing)
        ∙ first_step s.first (first_difference profile r g) (first_among profile r rest) so.before (choice_count g) s.choice_count so.capping
        ∙ ap (λ bs. option_or s.first (option_map (λ k. capped (so.before + k)) (first_among profile r bs))) (sym is)
        ∙ so.differing;
  }

  -- one more branch is offered
  pub offer_step : (locals : Option (List (Message × Local))) (all_offered : Option LocalBranches) → offered_before locals (branch_projections profile r from) ≡ all_offered → offered_before (with_branch locals m outcome.local) (branch_projections profile r rest) ≡ all_offered
  offer_step locals all_offered so =
      offered_step locals m outcome.local (branch_projections profile r rest)
      ∙ ap (λ o. offered_before locals (with_choice m o (branch_projections profile r rest))) seen.local
      ∙ ap (λ bs. offered_before locals (branch_projections profile r bs)) (sym is)
      ∙ so

  -- one more branch is merged
  pub merge_step : (before now : Merge) (local : Option LocalTree) → ((m : Message) (rest : Option LocalBranches) → merged_after profile now rest ≡ merged_after profile before (with_choice m (option_map local_of outcome.local) rest)) → merged_after profile before (branch_projections profile r from) ≡ local → merged_after profile now (branch_projections profile r rest) ≡ local
  merge_step before now local with so =
      with m (branch_projections profile r rest)
      ∙ ap (λ o. merged_after profile before (with_choice m o (branch_projections profile r rest))) seen.local
      ∙ ap (λ bs. merged_after profile before (branch_projections profile r bs)) (sym is)
      ∙ so

  pub differ_step : (before now : Merge) (d : Bool) → ((m : Message) (rest : Option LocalBranches) → differ_after profile now rest ≡ differ_after profile before (with_choice m (option_map local_of outcome.local) rest)) → differ_after profile before (branch_projections profile r from) ≡ d → differ_after profile now (branch_projections profile r rest) ≡ d
  differ_step before now d with so =
      with m (branch_projections profile r rest)
      ∙ ap (λ o. differ_after profile before (with_choice m o (branch_projections profile r rest))) seen.local
      ∙ ap (λ bs. differ_after profile before (branch_projections profile r bs)) (sym is)
      ∙ so

first_end : (o : Option ℕ) → option_or o None ≡ o
first_end None = refl
first_end (Some k) = refl

pub end : (profile : Profile) (r : List ℕ) (all rest : GlobalBranches) (s : Survey) → rest ≡ NoBranch → IsSoFar profile r all rest s → IsBranchSurvey profile r all s
end profile r all rest s is so = record {
  depth = sym (max_none s.depth) ∙ ap (λ bs. max s.depth (branches_open_depth bs)) (sym is) ∙ so.depth;
  occurring = sym (or_none s.occurs) ∙ ap (λ bs. s.occurs || branches_occur r bs) (sym is) ∙ so.occurring;
  counted = let n : branch_choice_count rest ≡ 0 = ap branch_choice_count is in let e : so.before ≡ branch_choice_count all = omega arith in so.capping ∙ ap capped e;
  differing = sym (first_end s.first) ∙ ap (λ bs. option_or s.first (option_map (λ k. capped (so.before + k)) (first_among profile r bs))) (sym is) ∙ so.differing;
}

pub offer_end : (profile : Profile) (r : List ℕ) (rest : GlobalBranches) (locals : Option (List (Message × Local))) (all_offered : Option LocalBranches) → rest ≡ NoBranch → offered_before locals (branch_projections profile r rest) ≡ all_offered → offered locals ≡ all_offered
offer_end profile r rest locals all_offered is so = sym (offered_end locals) ∙ ap (λ bs. offered_before locals (branch_projections profile r bs)) (sym is) ∙ so

pub merge_end : (profile : Profile) (r : List ℕ) (rest : GlobalBranches) (m : Merge) (local : Option LocalTree) → rest ≡ NoBranch → merged_after profile m (branch_projections profile r rest) ≡ local → merged_after profile m (Some NoChoice) ≡ local
merge_end profile r rest m local is so = ap (λ bs. merged_after profile m (branch_projections profile r bs)) (sym is) ∙ so

pub differ_end : (profile : Profile) (r : List ℕ) (rest : GlobalBranches) (m : Merge) (d : Bool) → rest ≡ NoBranch → differ_after profile m (branch_projections profile r rest) ≡ d → differ_after profile m (Some NoChoice) ≡ d
differ_end profile r rest m d is so = ap (λ bs. differ_after profile m (branch_projections profile r bs)) (sym is) ∙ so
