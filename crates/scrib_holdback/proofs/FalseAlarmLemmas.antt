-- The law of held arrivals.
use Rattle.std.proofs.Common.{◌≡◌, ◌⊎◌, inl, inr, ℕ, List, [], ◌∷◌, ◌++◌, map, length, refl, sym, ap, ◌∙◌, subst, append_assoc, append-nil, length-append, arith}
use Rattle.std.proofs.lemmas.List.{map-append, append_cancel_left, nil_from_length}
use Rattle.scrib_types.specs.declared.event.Event.{Event}
use Rattle.scrib_types.specs.Agreement.{Agreement}
use Rattle.scrib_types.specs.Permitted.{IsPermitted}
use Rattle.scrib_holdback.specs.Reorderings.{own_events, IsReordering}
use Rattle.scrib_holdback.specs.HoldBack.{HoldsWithExpiries, begins, arrives, releases, expires, IsHeldBack}
use Rattle.scrib_holdback.specs.FalseAlarms.{IsPermittedInSomeOrder, IsExact, BeginsWith, IsSameForEach, RaisesNoFalseAlarm}
use Rattle.scrib_holdback.proofs.OwnEvents.{own-append, no_events}
use Rattle.scrib_holdback.proofs.CausalOrders.{IsCausal, queued_causal}
use Rattle.scrib_holdback.proofs.PermittedOrders.{permitted_in_other}
use Rattle.scrib_holdback.proofs.Outcomes.{Outcome, outcome_of, no_item, IsWithin, all_within}

-- two lists of which each is the other with more behind it
nothing_behind : (a r w x : List Event) → a ≡ r ++ w → r ≡ a ++ x → w ≡ []
nothing_behind a r w x e f =
    nil_from_length w (omega (arith, ap length e, ap length f, length-append r w, length-append a x))

nothing_more : (a r w x : List Event) → a ≡ r ++ w → r ≡ a ++ x → x ≡ []
nothing_more a r w x e f =
    nil_from_length x (omega (arith, ap length e, ap length f, length-append r w, length-append a x))

module _ (arrivals released waiting : List Event) (o : Outcome arrivals released waiting) where
  held_is_reordering : IsReordering arrivals (released ++ waiting)
  held_is_reordering r = own-append r released waiting ∙ sym (o.parts r)

  -- where some causal order of all arrivals exists, all are released
  reaches : (other : List Event) → IsReordering arrivals other → IsCausal other → (r : List ℕ) → (rest : List Event) × (own_events r released ≡ own_events r arrivals ++ rest)
  reaches other re c r =
      let within : IsWithin other arrivals = λ s. ([], sym (re s) ∙ sym (append-nil (own_events s other))) in
      let x = all_within arrivals released waiting o other c within r in
      (x.0, x.1 ∙ ap (λ z. z ++ x.0) (re r))

  none_waits : (other : List Event) → IsReordering arrivals other → IsCausal other → waiting ≡ []
  none_waits other re c =
      no_events waiting
      (λ r. let x = reaches other re c r in
      nothing_behind (own_events r arrivals) (own_events r released) (own_events r waiting) x.0 (o.parts r) x.1)

  held_permitted : (a : Agreement) → IsPermittedInSomeOrder a arrivals → IsPermitted a (released ++ waiting)
  held_permitted a (other, re, ok) =
      let none : waiting ≡ [] = none_waits other re (queued_causal other ok.queued) in
      let whole : released ++ waiting ≡ released = ap (λ z. released ++ z) none ∙ append-nil released in
      let same : IsReordering (released ++ waiting) other = λ r. re r ∙ sym (held_is_reordering r) in
      permitted_in_other a (released ++ waiting) other same ok (subst IsCausal (sym whole) o.causal)

  exact_of : (a : Agreement) → IsExact a arrivals released waiting
  exact_of a = record {
    permitted = (λ ok. (released ++ waiting, held_is_reordering, ok), held_permitted a);
    none_waits = λ some. none_waits some.0 some.1 (queued_causal some.0 some.2.queued);
  }

-- another order of the same events
other_reaches : (arrivals released waiting others early rest : List Event) → Outcome arrivals released waiting → Outcome others early rest → IsReordering arrivals others → (r : List ℕ) → (more : List Event) × (own_events r released ≡ own_events r early ++ more)
other_reaches arrivals released waiting others early rest o p re r =
    all_within arrivals released waiting o early p.causal (λ s. (own_events s rest, sym (re s) ∙ p.parts s)) r

same_for_each : (arrivals released waiting others early rest : List Event) → Outcome arrivals released waiting → Outcome others early rest → IsReordering arrivals others → IsSameForEach released waiting early rest
same_for_each arrivals released waiting others early rest o p re =
    let released_same : IsReordering released early = λ r. (let x = other_reaches arrivals released waiting others early rest o p re r in
    let y = other_reaches others early rest arrivals released waiting p o (λ s. sym (re s)) r in
    let none : y.0 ≡ [] = nothing_behind (own_events r early) (own_events r released) y.0 x.0 y.1 x.1 in
    y.1 ∙ ap (λ z. own_events r released ++ z) none ∙ append-nil (own_events r released)) in (
      released_same,
      λ r. append_cancel_left (own_events r released) (own_events r rest) (own_events r waiting)
          (ap (λ z. z ++ own_events r rest) (sym (released_same r)) ∙ sym (p.parts r) ∙ re r ∙ o.parts r),
    )

-- xs ++ y ∷ [] split before an element: that is the last, or one of xs
split_cases : {X : Type 0} (xs fs gs : List X) (y g : X) → xs ++ y ∷ [] ≡ fs ++ g ∷ gs → (fs ≡ xs) ⊎ ((hs : List X) × (xs ≡ fs ++ g ∷ hs))
split_cases [] [] gs y g e = inl refl
split_cases [] (f ∷ []) gs y g e = absurd (cc)
split_cases [] (f ∷ h ∷ fs) gs y g e = absurd (cc)
split_cases (x ∷ xs) [] gs y g e = let same : x ≡ g = cc in inr (xs, ap (λ z. z ∷ xs) same)
split_cases (x ∷ xs) (f ∷ fs) gs y g e =
    let t : xs ++ y ∷ [] ≡ fs ++ g ∷ gs = cc in
    let h : x ≡ f = cc in
    elim (split_cases xs fs gs y g t) [ inl p ↦ inl (ap (λ z. z ∷ fs) (sym h) ∙ ap (λ z. x ∷ z) p) | inr p ↦ let q : xs ≡ fs ++ g ∷ p.0 = p.1 in inr (p.0, cc) ]

-- what was released before an item arrived
begins_before : {X : Type 0} (event : X → Event) {arrivals released expired waiting : List X} → HoldsWithExpiries event arrivals released expired waiting → expired ≡ [] → (first : List X) (y : X) (more : List X) → arrivals ≡ first ++ y ∷ more → BeginsWith event first released
begins_before event begins none [] y more e = absurd (cc)
begins_before event begins none (f ∷ first) y more e = absurd (cc)
begins_before event (arrives {arrivals = a} {released = s} {waiting = w} x h n) none first y more e =
    elim (split_cases a first more x y e) [
      | inl here ↦ let held : HoldsWithExpiries event first s [] w = subst (λ z. HoldsWithExpiries event z s [] w) (sym here) (subst (λ z. HoldsWithExpiries event a s z w) none h) in
          record { early = s; waiting = w; late = []; held = record { holds = held; settled = n }; begins = sym (append-nil s) }
      | inr p ↦ begins_before event h none first y p.0 p.1
    ]
begins_before event (releases {released = s} earlier x later h d) none first y more e =
    let b = begins_before event h none first y more e in
    record {
      early = b.early;
      waiting = b.waiting;
      late = b.late ++ x ∷ [];
      held = b.held;
      begins = ap (λ z. z ++ x ∷ []) b.begins ∙ append_assoc b.early b.late (x ∷ []);
    }
begins_before event (expires {expired = gone} x later h n) none first y more e = absurd (no_item gone [] x (sym none))

beginnings_of : {X : Type 0} (event : X → Event) (arrivals released waiting : List X) → IsHeldBack event arrivals released waiting → (first more : List X) → arrivals ≡ first ++ more → BeginsWith event first released
beginnings_of event arrivals released waiting h first [] e = record {
  early = released;
  waiting = waiting;
  late = [];
  held = subst (λ z. IsHeldBack event z released waiting) (e ∙ append-nil first) h;
  begins = sym (append-nil released);
}
beginnings_of event arrivals released waiting h first (y ∷ more) e = begins_before event h.holds refl first y more e

-- the law
pub no_false_alarm : {X : Type 0} (event : X → Event) (arrivals released waiting : List X) → IsHeldBack event arrivals released waiting → RaisesNoFalseAlarm event arrivals released waiting
no_false_alarm event arrivals released waiting h =
    let o = outcome_of event arrivals released waiting h in
    record {
      exact = exact_of (map event arrivals) (map event released) (map event waiting) o;
      reordering = subst (IsReordering (map event arrivals)) (sym (map-append event released waiting)) (held_is_reordering (map event arrivals) (map event released) (map event waiting) o);
      beginnings = beginnings_of event arrivals released waiting h;
      own_orders = λ others early rest re other. same_for_each (map event arrivals) (map event released) (map event waiting) (map event others) (map event early) (map event rest) o (outcome_of event others early rest other) re;
    }
