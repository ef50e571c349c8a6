-- A communication, surveyed from its branches.
use Rattle.std.proofs.Common.{◌≡◌, ℕ, zero, suc, ◌+◌, ◌-◌, Bool, true, false, ◌||◌, ◌&&◌, not, ◌==◌, ◌≤◌, ◌<◌, List, [], ◌∷◌, length, get_or, nat_lt, Option, Some, None, option_map, option_and_then, if◌then◌else◌, refl, sym, ap, ◌∙◌, arith, rules, tests}
use Rattle.std.specs.Option.{option_or}
use Rattle.std.specs.Str.{bytes_eq}
use Rattle.scrib_types.specs.declared.message.Message.{Message}
use Rattle.scrib_types.specs.declared.profile.Profile.{Profile}
use Rattle.scrib_types.specs.declared.global.GlobalType.{GlobalType}
use Rattle.scrib_types.specs.declared.local.Local.{Local}
use Rattle.scrib_types.specs.Trees.{GlobalTree, GlobalRec, GlobalBranches, NoBranch, Branch, Comm, LocalTree, LocalBranches, NoChoice, Send, Recv}
use Rattle.scrib_types.specs.GlobalView.{global_of, global_branches}
use Rattle.scrib_types.specs.LocalView.{local_of}
use Rattle.scrib_types.specs.Projection.{open_depth, occurs, branches_occur, projection, branch_projections, with_choice, merged}
use Rattle.scrib_types.specs.Nodes.{global_nodes, branch_nodes}
use Rattle.scrib_projection.specs.Differences.{choice_count, choice_count_here, branch_choice_count, differ, first_difference, first_among}
use Rattle.scrib_projection.specs.Surveys.{capped, IsSurvey, IsBranchSurvey, IsProjectionResult}
use Rattle.scrib_projection.specs.declared.survey.Survey.{Survey}
use Rattle.scrib_projection.specs.declared.project_role.ProjectionResult.{ProjectionResult}

-- one where the test holds
abbrev pub one_if : Bool → ℕ
one_if b = if b then 1 else 0

several' : (bs : List (Message × GlobalType)) → one_if (nat_lt 1 (length bs)) ≡ choice_count_here (global_branches bs)
several' [] = refl
several' (b ∷ []) = refl
several' (b ∷ c ∷ bs) = search (tests, rules)

pub several : (bs : List (Message × GlobalType)) (n : ℕ) → n ≡ length bs → one_if (nat_lt 1 n) ≡ choice_count_here (global_branches bs)
several bs n e = ap (λ k. one_if (nat_lt 1 k)) e ∙ several' bs

capped_here : (a b : ℕ) → capped (capped a + b) ≡ capped (a + b)
capped_here a b = omega arith

first_none : (o : Option ℕ) → option_or (option_map capped o) None ≡ option_map capped (option_or o None)
first_none None = refl
first_none (Some k) = refl

first_here : (o : Option ℕ) (d : Bool) (n joined : ℕ) → joined ≡ capped n → option_or (option_map capped o) (if d then Some joined else None) ≡ option_map capped (option_or o (if d then Some n else None))
first_here (Some k) d n joined e = refl
first_here None true n joined e = ap Some e
first_here None false n joined e = refl

first_kept : (c : Bool) (o : Option ℕ) → (if c then None else option_map capped o) ≡ option_map capped (if c then None else o)
first_kept true o = refl
first_kept false o = refl

-- whether a recursion is visited
abbrev pub is_passed : ℕ → Bool → Bool
is_passed depth occurring = (depth - 1 == 0) && not occurring

unvisited : (profile : Profile) (r : List ℕ) (g : GlobalTree) (s : Survey) → IsSurvey profile r g s → (if is_passed s.depth s.occurs then None else s.first) ≡ option_map capped (if is_passed (open_depth g) (occurs r g) then None else first_difference profile r g)
unvisited profile r g s seen =
    ap (λ n. if is_passed n s.occurs then None else s.first) seen.depth
    ∙ ap (λ b. if is_passed (open_depth g) b then None else s.first) seen.occurring
    ∙ ap (λ o. if is_passed (open_depth g) (occurs r g) then None else o) seen.differing
    ∙ first_kept (is_passed (open_depth g) (occurs r g)) (first_difference profile r g)

module _ (profile : Profile) (r p q : List ℕ) (bs : GlobalBranches) (s : Survey) (many : Bool) (t : Survey) (l : Option Local) (seen : IsBranchSurvey profile r bs s) (here : one_if many ≡ choice_count_here bs) (d : t.depth ≡ s.depth) (j : t.choice_count ≡ capped (s.choice_count + one_if many)) where
  counted : t.choice_count ≡ capped (branch_choice_count bs + choice_count_here bs)
  counted =
      j
      ∙ ap (λ n. capped (n + one_if many)) seen.counted
      ∙ capped_here (branch_choice_count bs) (one_if many)
      ∙ ap (λ n. capped (branch_choice_count bs + n)) here

  undiffering : t.first ≡ option_or s.first None → t.first ≡ option_map capped (option_or (first_among profile r bs) None)
  undiffering f = f ∙ ap (λ x. option_or x None) seen.differing ∙ first_none (first_among profile r bs)

  pub sender : (o : Option LocalBranches) → bytes_eq r p ≡ true → t.occurs ≡ true → t.first ≡ option_or s.first None → o ≡ branch_projections profile r bs → option_map local_of l ≡ option_map (Send q) o → IsProjectionResult profile r (Comm p q bs) (record { survey = t; local = l })
  sender o e occ f offer loc = record {
    survey = record {
      depth = d ∙ seen.depth;
      occurring = occ ∙ ap (λ b. (b || bytes_eq r q) || branches_occur r bs) (sym e);
      counted = counted;
      differing = undiffering f ∙ ap (λ b. option_map capped (option_or (first_among profile r bs) (if b || bytes_eq r q then None else (if differ profile (branch_projections profile r bs) then Some (branch_choice_count bs) else None)))) (sym e);
    };
    local =
        loc
        ∙ ap (option_map (Send q)) offer
        ∙ ap (λ b. if b then option_map (Send q) (branch_projections profile r bs) else (if bytes_eq r q then option_map (Recv p) (branch_projections profile r bs) else option_and_then (merged profile) (branch_projections profile r bs))) (sym e);
  }

  pub receiver : (o : Option LocalBranches) → bytes_eq r p ≡ false → bytes_eq r q ≡ true → t.occurs ≡ true → t.first ≡ option_or s.first None → o ≡ branch_projections profile r bs → option_map local_of l ≡ option_map (Recv p) o → IsProjectionResult profile r (Comm p q bs) (record { survey = t; local = l })
  receiver o n e occ f offer loc = record {
    survey = record {
      depth = d ∙ seen.depth;
      occurring = occ ∙ ap (λ b. (false || b) || branches_occur r bs) (sym e) ∙ ap (λ b. (b || bytes_eq r q) || branches_occur r bs) (sym n);
      counted = counted;
      differing =
          undiffering f
          ∙ ap (λ b. option_map capped (option_or (first_among profile r bs) (if false || b then None else (if differ profile (branch_projections profile r bs) then Some (branch_choice_count bs) else None)))) (sym e)
          ∙ ap (λ b. option_map capped (option_or (first_among profile r bs) (if b || bytes_eq r q then None else (if differ profile (branch_projections profile r bs) then Some (branch_choice_count bs) else None)))) (sym n);
    };
    local =
        loc
        ∙ ap (option_map (Recv p)) offer
        ∙ ap (λ b. if false then option_map (Send q) (branch_projections profile r bs) else (if b then option_map (Recv p) (branch_projections profile r bs) else option_and_then (merged profile) (branch_projections profile r bs))) (sym e)
        ∙ ap (λ b. if b then option_map (Send q) (branch_projections profile r bs) else (if bytes_eq r q then option_map (Recv p) (branch_projections profile r bs) else option_and_then (merged profile) (branch_projections profile r bs))) (sym n);
  }

  pub other : (x : Bool) → bytes_eq r p ≡ false → bytes_eq r q ≡ false → t.occurs ≡ s.occurs → t.first ≡ option_or s.first (if x then Some s.choice_count else None) → x ≡ differ profile (branch_projections profile r bs) → option_map local_of l ≡ option_and_then (merged profile) (branch_projections profile r bs) → IsProjectionResult profile r (Comm p q bs) (record { survey = t; local = l })
  other x n m occ f is loc = record {
    survey = record {
      depth = d ∙ seen.depth;
      occurring = occ ∙ seen.occurring ∙ ap (λ b. (b || false) || branches_occur r bs) (sym n) ∙ ap (λ b. (bytes_eq r p || b) || branches_occur r bs) (sym m);
      counted = counted;
      differing =
          f
          ∙ ap (λ o. option_or o (if x then Some s.choice_count else None)) seen.differing
          ∙ first_here (first_among profile r bs) x (branch_choice_count bs) s.choice_count seen.counted
          ∙ ap (λ b. option_map capped (option_or (first_among profile r bs) (if b then Some (branch_choice_count bs) else None))) is
          ∙ ap (λ b. option_map capped (option_or (first_among profile r bs) (if b || false then None else (if differ profile (branch_projections profile r bs) then Some (branch_choice_count bs) else None)))) (sym n)
          ∙ ap (λ b. option_map capped (option_or (first_among profile r bs) (if bytes_eq r p || b then None else (if differ profile (branch_projections profile r bs) then Some (branch_choice_count bs) else None)))) (sym m);
    };
    local =
        loc
        ∙ ap (λ b. if b then option_map (Send q) (branch_projections profile r bs) else (if false then option_map (Recv p) (branch_projections profile r bs) else option_and_then (merged profile) (branch_projections profile r bs))) (sym n)
        ∙ ap (λ b. if bytes_eq r p then option_map (Send q) (branch_projections profile r bs) else (if b then option_map (Recv p) (branch_projections profile r bs) else option_and_then (merged profile) (branch_projections profile r bs))) (sym m);
  }

alone_merged : (profile : Profile) (m : Message) (l : Option LocalTree) → option_and_then (merged profile) (with_choice m l (Some NoChoice)) ≡ l
alone_merged profile m None = refl
alone_merged profile m (Some l) = refl

alone_same : (profile : Profile) (m : Message) (l : Option LocalTree) → differ profile (with_choice m l (Some NoChoice)) ≡ false
alone_same profile m None = refl
alone_same profile m (Some l) = refl

alone_first : (o : Option ℕ) → o ≡ option_or (option_or o None) None
alone_first None = refl
alone_first (Some k) = refl

alone_occurs : (b : Bool) → b ≡ ((false || false) || (b || false))
alone_occurs true = refl
alone_occurs false = refl

-- a communication of other roles with one branch, from its continuation
pub alone : (profile : Profile) (r p q : List ℕ) (m : Message) (g : GlobalTree) (s : ProjectionResult) → bytes_eq r p ≡ false → bytes_eq r q ≡ false → IsProjectionResult profile r g s → IsProjectionResult profile r (Comm p q (Branch m g NoBranch)) s
alone profile r p q m g s e f seen = record {
  survey = record {
    depth = seen.survey.depth ∙ omega arith;
    occurring = seen.survey.occurring ∙ alone_occurs (occurs r g) ∙ ap (λ b. (b || false) || (occurs r g || false)) (sym e) ∙ ap (λ b. (bytes_eq r p || b) || (occurs r g || false)) (sym f);
    counted = let k : choice_count g ≡ choice_count g + 0 + 0 = omega arith in seen.survey.counted ∙ ap capped k;
    differing =
        seen.survey.differing
        ∙ ap (option_map capped) (alone_first (first_difference profile r g))
        ∙ ap (λ b. option_map capped (option_or (option_or (first_difference profile r g) None) (if b then Some (choice_count g + 0) else None))) (sym (alone_same profile m (projection profile r g)))
        ∙ ap (λ b. option_map capped (option_or (option_or (first_difference profile r g) None) (if b || false then None else (if differ profile (branch_projections profile r (Branch m g NoBranch)) then Some (choice_count g + 0) else None)))) (sym e)
        ∙ ap (λ b. option_map capped (option_or (option_or (first_difference profile r g) None) (if bytes_eq r p || b then None else (if differ profile (branch_projections profile r (Branch m g NoBranch)) then Some (choice_count g + 0) else None)))) (sym f);
  };
  local =
      seen.local
      ∙ sym (alone_merged profile m (projection profile r g))
      ∙ ap (λ b. if b then option_map (Send q) (branch_projections profile r (Branch m g NoBranch)) else (if false then option_map (Recv p) (branch_projections profile r (Branch m g NoBranch)) else option_and_then (merged profile) (branch_projections profile r (Branch m g NoBranch)))) (sym e)
      ∙ ap (λ b. if bytes_eq r p then option_map (Send q) (branch_projections profile r (Branch m g NoBranch)) else (if b then option_map (Recv p) (branch_projections profile r (Branch m g NoBranch)) else option_and_then (merged profile) (branch_projections profile r (Branch m g NoBranch)))) (sym f);
}

-- the only branch
pub only : (bs : List (Message × GlobalType)) (d : Message × GlobalType) → 1 ≤ length bs → length bs < 2 → global_branches bs ≡ Branch (get_or bs 0 d).0 (global_of (get_or bs 0 d).1) NoBranch
only [] d h k = absurd (omega arith)
only (b ∷ []) d h k = refl
only (b ∷ c ∷ bs) d h k = absurd (omega arith)

-- a branch has no more nodes than all of them
pub nodes_within : (bs : List (Message × GlobalType)) (i : ℕ) (b : Message × GlobalType) → b ≡ get_or bs i b → i < length bs → global_nodes (global_of b.1) ≤ branch_nodes (global_branches bs)
nodes_within [] i b is h = absurd (omega arith)
nodes_within (x ∷ bs) zero b is h = omega (arith, ap (λ (y : Message × GlobalType). global_nodes (global_of y.1)) is)
nodes_within (x ∷ bs) (suc i) b is h = let k : i < length bs = omega arith in omega (arith, nodes_within bs i b is k)

-- a recursion, from its body
pub recursion : (profile : Profile) (r : List ℕ) (g : GlobalTree) (s t : Survey) → IsSurvey profile r g s → t.depth ≡ s.depth - 1 → t.occurs ≡ s.occurs → t.choice_count ≡ s.choice_count → t.first ≡ (if (s.depth - 1 == 0) && not s.occurs then None else s.first) → IsSurvey profile r (GlobalRec g) t
recursion profile r g s t seen d o j f = record {
  depth = d ∙ ap (λ n. n - 1) seen.depth;
  occurring = o ∙ seen.occurring;
  counted = j ∙ seen.counted;
  differing = f ∙ unvisited profile r g s seen;
}
