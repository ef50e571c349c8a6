-- Tallies: the case of one more receipt, and the first mismatch.
use Rattle.std.proofs.Common.{◌≡◌, ◌≢◌, ◌<◌, ◌≤◌, ◌+◌, ◌++◌, ◌∷◌, ◌∙◌, ◌⊎◌, min, subst, inl, inr, [], ℕ, zero, suc, List, Bool, true, false, cond, Option, Some, None, IfSome, length, slice_get, get_or, set, map, filter, option_to_list, nat_eq, refl, sym, ap, arith, true≢false, length-append, append_assoc, replicate}
use Rattle.std.proofs.lemmas.Bool.{cases_lt, cases_eq}
use Rattle.std.proofs.lemmas.Bool.Decides.{eqb_tells}
use Rattle.std.proofs.lemmas.Option.{slice_get_cases, slice_get_past}
use Rattle.std.proofs.lemmas.List.{append-nil, get_or_past, get_or-replicate, length-replicate, get_or-set_other, get_or-set_same, length-set}
use Rattle.scrib_types.specs.declared.event.Event.{Event}
use Rattle.scrib_locked_steps.specs.declared.pass.Receipt.{Receipt}
use Rattle.scrib_locked_steps.specs.Receipts.{entry_at, min_place}
use Rattle.scrib_settlement.specs.Mismatches.{events_at}
use Rattle.scrib_settlement.specs.Tallies.{IsTallyOf, IsBelow, IsFirstDifference, IsFirstDue, is_due, events_so_far, lesser}

-- the events of one receipt for a place
abbrev events_of : ℕ → Receipt → List Event
events_of n r = cond (nat_eq r.place n) (r.event ∷ []) []

abbrev of_place : ℕ → List Receipt → List Receipt
of_place n xs = filter (λ (r : Receipt). nat_eq r.place n) xs

events_push : (n : ℕ) (rs : List Receipt) (r : Receipt) → events_at n (rs ++ r ∷ []) ≡ events_at n rs ++ events_of n r
events_push n [] r = by (nat_eq r.place n)
  where
    by : (b : Bool) → map (λ (q : Receipt). q.event) (cond b (r ∷ []) []) ≡ cond b (r.event ∷ []) []
    by true = refl
    by false = refl
events_push n (q ∷ rs) r = by (nat_eq q.place n) (events_push n rs r)
  where
    by : (b : Bool) → map (λ (s : Receipt). s.event) (of_place n (rs ++ r ∷ [])) ≡ map (λ (s : Receipt). s.event) (of_place n rs) ++ events_of n r
        → map (λ (s : Receipt). s.event) (cond b (q ∷ of_place n (rs ++ r ∷ [])) (of_place n (rs ++ r ∷ []))) ≡ map (λ (s : Receipt). s.event) (cond b (q ∷ of_place n rs) (of_place n rs)) ++ events_of n r
    by true h = ap (λ (xs : List Event). q.event ∷ xs) h
    by false h = h

events_of_same : (n : ℕ) (r : Receipt) → r.place ≡ n → events_of n r ≡ r.event ∷ []
events_of_same n r h = elim (eqb_tells r.place n) [ inl p ↦ rw p.0 refl | inr p ↦ absurd (p.1 h) ]

events_of_other : (n : ℕ) (r : Receipt) → r.place ≢ n → events_of n r ≡ []
events_of_other n r h = elim (eqb_tells r.place n) [ inl p ↦ absurd (h p.1) | inr p ↦ rw p.0 refl ]

events_push_same : (rs : List Receipt) (r : Receipt) → events_at r.place (rs ++ r ∷ []) ≡ events_at r.place rs ++ r.event ∷ []
events_push_same rs r = events_push r.place rs r ∙ ap (λ (xs : List Event). events_at r.place rs ++ xs) (events_of_same r.place r refl)

events_push_other : (n : ℕ) (rs : List Receipt) (r : Receipt) → r.place ≢ n → events_at n (rs ++ r ∷ []) ≡ events_at n rs
events_push_other n rs r h = events_push n rs r ∙ ap (λ (xs : List Event). events_at n rs ++ xs) (events_of_other n r h) ∙ append-nil (events_at n rs)

so_far_due : (n : ℕ) (log : List Event) (due : List Bool) → is_due n due ≡ true → events_so_far n log due ≡ []
so_far_due n log due h = rw h refl

so_far_done : (n : ℕ) (log : List Event) (due : List Bool) → is_due n due ≡ false → events_so_far n log due ≡ entry_at n log
so_far_done n log due h = rw h refl

no_longer : (xs ys : List Event) (x : Event) → (xs ++ x ∷ []) ++ ys ≢ xs
no_longer xs ys x e =
    let long = ap length e in
    absurd (omega (arith, long, length-append (xs ++ x ∷ []) ys, length-append xs (x ∷ [])))

-- the case of a receipt for an entry that is due
pub counted_right : (log : List Event) (rs : List Receipt) (r : Receipt) (due : List Bool) (wrong : Option ℕ)
    → IsTallyOf log rs due wrong → is_due r.place due ≡ true → r.place < length due → entry_at r.place log ≡ r.event ∷ []
    → IsTallyOf log (rs ++ r ∷ []) (set due r.place false) wrong
counted_right log rs r due wrong counts is within entry = record {
  size = length-set due r.place false ∙ counts.size;
  owed = λ n p. still n p (cases_eq r.place n);
  so_far = λ n below. after n below (cases_eq r.place n);
  never = keeps wrong counts.never;
}
  where
    other : (n : ℕ) → (r.place ≡ n → ⊥) → is_due n (set due r.place false) ≡ is_due n due
    other n differs = get_or-set_other due r.place n false false (λ e. differs (sym e))

    still : (n : ℕ) → is_due n (set due r.place false) ≡ true → (r.place ≡ n) ⊎ (r.place ≡ n → ⊥) → entry_at n log ≢ []
    still n p (inl e) = absurd (true≢false (sym p ∙ ap (λ (k : ℕ). is_due k (set due r.place false)) (sym e) ∙ get_or-set_same due r.place false false within))
    still n p (inr differs) = counts.owed n (sym (other n differs) ∙ p)

    after : (n : ℕ) → IsBelow n wrong → (r.place ≡ n) ⊎ (r.place ≡ n → ⊥) → events_at n (rs ++ r ∷ []) ≡ events_so_far n log (set due r.place false)
    after n below (inl e) = at n e below
      where
        at : (n : ℕ) → r.place ≡ n → IsBelow n wrong → events_at n (rs ++ r ∷ []) ≡ events_so_far n log (set due r.place false)
        at n e below =
            let before : events_at r.place rs ≡ [] = counts.so_far r.place (subst (λ (k : ℕ). IsBelow k wrong) (sym e) below) ∙ so_far_due r.place log due is in
            let here : events_at r.place (rs ++ r ∷ []) ≡ events_so_far r.place log (set due r.place false) =
            events_push_same rs r ∙ ap (λ (xs : List Event). xs ++ r.event ∷ []) before ∙ sym entry
            ∙ sym (so_far_done r.place log (set due r.place false) (get_or-set_same due r.place false false within)) in
            subst (λ (k : ℕ). events_at k (rs ++ r ∷ []) ≡ events_so_far k log (set due r.place false)) e here
    after n below (inr differs) =
        events_push_other n rs r differs ∙ counts.so_far n below ∙ ap (λ (b : Bool). cond b [] (entry_at n log)) (sym (other n differs))

    keeps : (o : Option ℕ) → IfSome o (λ w. (more : List Event) → events_at w rs ++ more ≢ entry_at w log)
        → IfSome o (λ w. (more : List Event) → events_at w (rs ++ r ∷ []) ++ more ≢ entry_at w log)
    keeps None h = tt
    keeps (Some w) h = λ more e. h (events_of w r ++ more) (sym (append_assoc (events_at w rs) (events_of w r) more) ∙ ap (λ (xs : List Event). xs ++ more) (sym (events_push w rs r)) ∙ e)

entry_short : (n : ℕ) (log : List Event) → length (entry_at n log) ≤ 1
entry_short zero log = omega arith
entry_short (suc k) log = by (slice_get log k)
  where
    by : (o : Option Event) → length (option_to_list o) ≤ 1
    by None = omega arith
    by (Some x) = omega arith

alone : (x : Event) (more xs : List Event) → length xs ≤ 1 → x ∷ more ≡ xs → xs ≡ x ∷ []
alone x [] xs short e = sym e
alone x (y ∷ ys) xs short e = let long = ap length e in absurd (omega (arith, long, short))

-- the case of a receipt that differs from the entry, or whose place already has one or does not exist
pub counted_wrong : (log : List Event) (rs : List Receipt) (r : Receipt) (due : List Bool) (wrong : Option ℕ)
    → IsTallyOf log rs due wrong → (is_due r.place due ≡ true → entry_at r.place log ≢ r.event ∷ [])
    → IsTallyOf log (rs ++ r ∷ []) due (Some (min_place r.place wrong))
counted_wrong log rs r due wrong counts bad = record {
  size = counts.size;
  owed = counts.owed;
  so_far = λ n below. after wrong n below counts.so_far;
  never = at wrong counts.never counts.so_far;
}
  where
    after : (o : Option ℕ) (n : ℕ) → n < min_place r.place o → ((k : ℕ) → IsBelow k o → events_at k rs ≡ events_so_far k log due) → events_at n (rs ++ r ∷ []) ≡ events_so_far n log due
    after None n below so_far = let differs : r.place ≢ n = omega arith in events_push_other n rs r differs ∙ so_far n tt
    after (Some w) n below so_far = let differs : r.place ≢ n = omega arith in events_push_other n rs r differs ∙ so_far n (omega arith)

    here : events_at r.place rs ≡ events_so_far r.place log due → (b : Bool) → is_due r.place due ≡ b → (more : List Event) → events_at r.place (rs ++ r ∷ []) ++ more ≢ entry_at r.place log
    here before true is more e =
        let now : events_at r.place (rs ++ r ∷ []) ≡ r.event ∷ [] = events_push_same rs r ∙ ap (λ (xs : List Event). xs ++ r.event ∷ []) (before ∙ so_far_due r.place log due is) in
        bad is (alone r.event more (entry_at r.place log) (entry_short r.place log) (sym (ap (λ (xs : List Event). xs ++ more) now) ∙ e))
    here before false is more e =
        let now : events_at r.place (rs ++ r ∷ []) ≡ entry_at r.place log ++ r.event ∷ [] = events_push_same rs r ∙ ap (λ (xs : List Event). xs ++ r.event ∷ []) (before ∙ so_far_done r.place log due is) in
        no_longer (entry_at r.place log) more r.event (sym (ap (λ (xs : List Event). xs ++ more) now) ∙ e)

    later : (w : ℕ) → ((more : List Event) → events_at w rs ++ more ≢ entry_at w log) → (more : List Event) → events_at w (rs ++ r ∷ []) ++ more ≢ entry_at w log
    later w h more e = h (events_of w r ++ more) (sym (append_assoc (events_at w rs) (events_of w r) more) ∙ ap (λ (xs : List Event). xs ++ more) (sym (events_push w rs r)) ∙ e)

    at : (o : Option ℕ) → IfSome o (λ w. (more : List Event) → events_at w rs ++ more ≢ entry_at w log) → ((k : ℕ) → IsBelow k o → events_at k rs ≡ events_so_far k log due)
        → (more : List Event) → events_at (min_place r.place o) (rs ++ r ∷ []) ++ more ≢ entry_at (min_place r.place o) log
    at None never so_far = here (so_far r.place tt) (is_due r.place due) refl
    at (Some w) never so_far = elim (cases_lt r.place w) [
      | inl less ↦ (let is : min w r.place ≡ r.place = omega arith in rw is (here (so_far r.place less) (is_due r.place due) refl))
      | inr more ↦ (let is : min w r.place ≡ w = omega arith in rw is (later w never))
    ]

-- a due place stays due until it has a receipt, so the first mismatch is the least wrong or due place
pub first_is : (log : List Event) (rs : List Receipt) (due : List Bool) (wrong unmatched : Option ℕ)
    → IsTallyOf log rs due wrong → IsFirstDue due unmatched → IsFirstDifference log rs (lesser wrong unmatched)
first_is log rs due wrong unmatched counts first = by wrong unmatched counts.so_far counts.never first
  where
    clear : (n : ℕ) → events_at n rs ≡ events_so_far n log due → is_due n due ≡ false → events_at n rs ≡ entry_at n log
    clear n so_far is = so_far ∙ so_far_done n log due is

    owed : (n : ℕ) → events_at n rs ≡ events_so_far n log due → is_due n due ≡ true → events_at n rs ≢ entry_at n log
    owed n so_far is e = counts.owed n is (sym e ∙ so_far ∙ so_far_due n log due is)

    never_same : (w : ℕ) → ((more : List Event) → events_at w rs ++ more ≢ entry_at w log) → events_at w rs ≢ entry_at w log
    never_same w never e = never [] (append-nil (events_at w rs) ∙ e)

    by : (o u : Option ℕ) → ((n : ℕ) → IsBelow n o → events_at n rs ≡ events_so_far n log due) → IfSome o (λ w. (more : List Event) → events_at w rs ++ more ≢ entry_at w log)
        → IsFirstDue due u → IsFirstDifference log rs (lesser o u)
    by None None so_far never none = λ n. clear n (so_far n tt) (none n)
    by None (Some u) so_far never one = (owed u (so_far u tt) one.0, λ n below. clear n (so_far n tt) (one.1 n below))
    by (Some w) None so_far never none = (never_same w never, λ n below. clear n (so_far n below) (none n))
    by (Some w) (Some u) so_far never one = elim (cases_lt u w) [
      | inl less ↦ (let is : min u w ≡ u = omega arith in rw is ((owed u (so_far u less) one.0, λ n below. clear n (so_far n (omega arith)) (one.1 n below))))
      | inr more ↦ (let is : min u w ≡ w = omega arith in rw is ((never_same w never, λ n below. clear n (so_far n below) (one.1 n (omega arith)))))
    ]

-- without receipts, each place of the log is due
pub counted_none : (log : List Event) (all : List Bool) → all ≡ replicate (length log + 1) true → IsTallyOf log [] (set all 0 false) None
counted_none log all is = record {
  size = length-set all 0 false ∙ ap length is ∙ length-replicate (length log + 1) true;
  owed = owed;
  so_far = λ n below. so_far n;
  never = tt;
}
  where
    first : is_due 0 (set all 0 false) ≡ false
    first = get_or-set_same all 0 false false (let long : length all ≡ length log + 1 = ap length is ∙ length-replicate (length log + 1) true in omega arith)

    within : (k : ℕ) → k < length log → is_due (suc k) (set all 0 false) ≡ true
    within k h = get_or-set_other all 0 (suc k) false false (omega arith) ∙ ap (λ (xs : List Bool). get_or xs (suc k) false) is ∙ get_or-replicate (length log + 1) (suc k) true false (omega arith)

    past : (k : ℕ) → length log ≤ k → is_due (suc k) (set all 0 false) ≡ false
    past k h = get_or_past (set all 0 false) (suc k) false (let long : length (set all 0 false) ≡ length log + 1 = length-set all 0 false ∙ ap length is ∙ length-replicate (length log + 1) true in omega arith)

    full : (k : ℕ) → k < length log → entry_at (suc k) log ≢ []
    full k h e = elim (slice_get_cases log k).1 [
      | inl found ↦ (let bad : found.0 ∷ [] ≡ [] = sym (ap option_to_list found.2) ∙ e in cc)
      | inr none ↦ absurd (omega (arith, none.0))
    ]

    owed : (n : ℕ) → is_due n (set all 0 false) ≡ true → entry_at n log ≢ []
    owed zero h = absurd (true≢false (sym h ∙ first))
    owed (suc k) h = elim (cases_lt k (length log)) [ inl less ↦ full k less | inr more ↦ absurd (true≢false (sym h ∙ past k more)) ]

    so_far : (n : ℕ) → [] ≡ events_so_far n log (set all 0 false)
    so_far zero = sym (so_far_done 0 log (set all 0 false) first)
    so_far (suc k) = elim (cases_lt k (length log)) [
      | inl less ↦ sym (so_far_due (suc k) log (set all 0 false) (within k less))
      | inr more ↦ sym (so_far_done (suc k) log (set all 0 false) (past k more) ∙ ap option_to_list (slice_get_past log k more))
    ]
