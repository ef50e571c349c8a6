-- Where there is no projection, some choice differs.
use Rattle.std.proofs.Common.{◌≡◌, ℕ, ◌+◌, Bool, true, false, ◌||◌, not, List, Option, Some, None, is_some, option_map, option_and_then, if◌then◌else◌, refl, sym, ap, ◌∙◌}
use Rattle.std.specs.Option.{option_or}
use Rattle.std.specs.Str.{bytes_eq}
use Rattle.std.proofs.lemmas.Bool.{and_parts}
use Rattle.scrib_types.specs.declared.message.Message.{Message}
use Rattle.scrib_types.specs.declared.profile.Profile.{Profile}
use Rattle.scrib_types.specs.Trees.{GlobalTree, GlobalEnd, GlobalVar, GlobalRec, Comm, Flight, GlobalBranches, NoBranch, Branch, LocalTree, LocalEnd, LocalRec, LocalBranches, NoChoice, Choice, Send, Recv}
use Rattle.scrib_types.specs.Projection.{projection, branch_projections, with_choice, merged}
use Rattle.scrib_types.specs.WellFormed.{well_formed, branches_well_formed, has_branches}
use Rattle.scrib_types.specs.LocalView.{local_of}
use Rattle.scrib_projection.specs.Surveys.{IsProjectionResult}
use Rattle.scrib_project.specs.Faults.{IsUnmergeable}
use Rattle.scrib_project.specs.declared.fault.Unmergeable.{Unmergeable}
use Rattle.scrib_projection.specs.declared.project_role.ProjectionResult.{ProjectionResult}
use Rattle.scrib_projection.specs.Differences.{choice_count, branch_choice_count, differ, first_difference, first_among}

-- there is a number
abbrev HasNumber : Option ℕ → Type 0
HasNumber o = (k : ℕ) × (o ≡ Some k)

or_first : (f o : Option ℕ) → HasNumber f → HasNumber (option_or f o)
or_first f o h = (h.0, ap (λ x. option_or x o) h.1)

or_later : (f o : Option ℕ) → HasNumber o → HasNumber (option_or f o)
or_later None o h = h
or_later (Some k) o h = (k, refl)

mapped : (n : ℕ) (o : Option ℕ) → HasNumber o → HasNumber (option_map (λ k. n + k) o)
mapped n o h = (n + h.0, ap (option_map (λ k. n + k)) h.1)

recursion : (c : Bool) (o : Option LocalTree) (f : Option ℕ) → (o ≡ None → HasNumber f) → (if c then Some LocalEnd else option_map LocalRec o) ≡ None → HasNumber (if c then None else f)
recursion true o f h e = absurd (cc)
recursion false None f h e = h refl
recursion false (Some l) f h e = absurd (cc)

unmerged : (o : Option LocalTree) (n : ℕ) → o ≡ None → HasNumber (if not (is_some o) then Some n else None)
unmerged None n e = (n, refl)
unmerged (Some l) n e = absurd (cc)

some_choice : Option LocalBranches → Bool
some_choice None = true
some_choice (Some NoChoice) = false
some_choice (Some (Choice m l ls)) = true

choice_of : (m : Message) (o : Option LocalTree) (ls : Option LocalBranches) → some_choice (with_choice m o ls) ≡ true
unfolding some_choice
choice_of m None ls = refl
choice_of m (Some l) None = refl
choice_of m (Some l) (Some ls) = refl

has_choice : (profile : Profile) (r : List ℕ) (bs : GlobalBranches) → has_branches bs ≡ true → some_choice (branch_projections profile r bs) ≡ true
unfolding some_choice
has_choice profile r NoBranch h = absurd (cc)
has_choice profile r (Branch m g bs) h = choice_of m (projection profile r g) (branch_projections profile r bs)

communication : (profile : Profile) (a b : Bool) (p q : List ℕ) (ls : Option LocalBranches) (f : Option ℕ) (n : ℕ) → some_choice ls ≡ true → (ls ≡ None → HasNumber f) → (if a then option_map (Send q) ls else (if b then option_map (Recv p) ls else option_and_then (merged profile) ls)) ≡ None → HasNumber (option_or f (if a || b then None else (if differ profile ls then Some n else None)))
unfolding some_choice
communication profile a b p q None f n s h e = or_first f _ (h refl)
communication profile a b p q (Some NoChoice) f n s h e = absurd (cc)
communication profile true b p q (Some (Choice m l ls)) f n s h e = absurd (cc)
communication profile false true p q (Some (Choice m l ls)) f n s h e = absurd (cc)
communication profile false false p q (Some (Choice m l ls)) f n s h e = or_later f _ (unmerged (merged profile (Choice m l ls)) n e)

choices : (m : Message) (o : Option LocalTree) (ls : Option LocalBranches) (f : Option ℕ) (n : ℕ) (rest : Option ℕ) → (o ≡ None → HasNumber f) → (ls ≡ None → HasNumber rest) → with_choice m o ls ≡ None → HasNumber (option_or f (option_map (λ k. n + k) rest))
choices m None ls f n rest h k e = or_first f _ (h refl)
choices m (Some l) None f n rest h k e = or_later f _ (mapped n rest (k refl))
choices m (Some l) (Some ls) f n rest h k e = absurd (cc)

mutual
  pub undefined : (profile : Profile) (r : List ℕ) (roles : List (List ℕ)) (g : GlobalTree) → well_formed roles g ≡ true → projection profile r g ≡ None → HasNumber (first_difference profile r g)
  undefined profile r roles GlobalEnd w e = absurd (cc)
  undefined profile r roles (GlobalVar n) w e = absurd (cc)
  undefined profile r roles (GlobalRec g) w e = recursion _ (projection profile r g) (first_difference profile r g) (undefined profile r roles g (and_parts _ _ w).1) e
  undefined profile r roles (Comm p q bs) w e =
      let five = and_parts _ (branches_well_formed roles bs) w in
      let four = and_parts _ _ five.0 in
      let three = and_parts _ (has_branches bs) four.0 in
      communication profile (bytes_eq r p) (bytes_eq r q) p q (branch_projections profile r bs) (first_among profile r bs) (branch_choice_count bs) (has_choice profile r bs three.1) (all_undefined profile r roles bs five.1) e
  undefined profile r roles (Flight p q j bs) w e = absurd (cc)

  pub all_undefined : (profile : Profile) (r : List ℕ) (roles : List (List ℕ)) (bs : GlobalBranches) → branches_well_formed roles bs ≡ true → branch_projections profile r bs ≡ None → HasNumber (first_among profile r bs)
  all_undefined profile r roles NoBranch w e = absurd (cc)
  all_undefined profile r roles (Branch m g bs) w e =
      let both = and_parts (well_formed roles g) (branches_well_formed roles bs) w in
      choices m (projection profile r g) (branch_projections profile r bs) (first_difference profile r g) (choice_count g) (first_among profile r bs) (undefined profile r roles g both.0) (all_undefined profile r roles bs both.1) e

pub told : (profile : Profile) (g h : GlobalTree) (r : List ℕ) (roles : List (List ℕ)) (s : ProjectionResult) (u : Unmergeable) → h ≡ g → IsProjectionResult profile r h s → s.local ≡ None → well_formed roles g ≡ true → u.role ≡ r → IsUnmergeable profile g r u
told profile g h r roles s u same seen none well role =
    let missing : projection profile r g ≡ None = ap (projection profile r) (sym same) ∙ sym seen.local ∙ ap (option_map local_of) none in
    let number = undefined profile r roles g well missing in
    record { role = role; undefined = missing; first = number.0; differs = number.1 }
