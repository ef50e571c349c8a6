-- Lists that have each stale conversation, and sweeps of them.
use Rattle.std.proofs.Common.{◌≡◌, ◌⊎◌, inl, inr, ℕ, ◌+◌, ◌-◌, ◌<◌, ◌≤◌, true, false, List, [], ◌∷◌, Contains, length, get_or, drop, Option, Some, None, slice_get, refl, sym, ap, subst, ◌∙◌, arith, length-drop}
use Rattle.std.specs.Prelude.{IfSome}
use Rattle.std.specs.List.Sorted.{IsStrictlyIncreasing}
use Rattle.std.proofs.lemmas.Bool.{cases_lt, false≢true}
use Rattle.std.proofs.lemmas.Bool.Decides.{Decides-eqb}
use Rattle.std.proofs.lemmas.List.{drop-drop, get_or_default, get_or-drop}
use Rattle.std.proofs.lemmas.List.Kept.{AllPairs-from_increasing}
use Rattle.std.proofs.lemmas.Map.Made.{is_member-Decides}
use Rattle.std.proofs.lemmas.Option.{get_or_from_slice_get}
use Rattle.scrib_core.specs.Marks.{IsStale}
use Rattle.scrib_core.specs.Answers.{State}
use Rattle.scrib_sweep.specs.declared.sweep.Progress.{Progress}
use Rattle.scrib_sweep.specs.Sweeps.{Covers, IsAllFresh, IsSwept, IsSweptSome}
use Rattle.scrib_sweep.proofs.TurnEffects.{fresh_or_stale, not_both}
use Rattle.scrib_sweep.proofs.SweepSteps as steps
use Rattle.scrib_sweep.proofs.SweptLists.{swept_none}
use Rattle.scrib_sweeping.specs.StaleLists.{AreAmong, IsRestFrom}
use Rattle.scrib_sweeping.specs.SweptRuns.{IsSweptBefore}
use Rattle.scrib_sweeping.proofs.StaleLemmas.{MakesNoneStale}

-- ---- lists

pub covers_of : (s : State) (ids : List ℕ) → IsStrictlyIncreasing ids → AreAmong s ids → Covers s ids
covers_of s ids rise among = record { rise = rise; each = λ id stale. (is_member-Decides Decides-eqb ids id).0 (among id stale) }

pub among_of : (s : State) (ids : List ℕ) → Covers s ids → AreAmong s ids
among_of s ids covers id stale = (is_member-Decides Decides-eqb ids id).1 (covers.each id stale)

-- a list has each stale conversation as long as no other becomes stale
pub among_kept : (w u : State) (ids : List ℕ) → MakesNoneStale w u → AreAmong w ids → AreAmong u ids
among_kept w u ids none among id stale = among id (none id stale)

-- the empty list has each stale conversation only where nothing is stale
pub all_fresh : (s : State) → AreAmong s [] → IsAllFresh s
all_fresh s among id = elim (fresh_or_stale (s.marks id)) [
  | inl fresh ↦ fresh
  | inr stale ↦ absurd (false≢true (among id stale))
]

pub none_among : (s : State) → IsAllFresh s → (ids : List ℕ) → AreAmong s ids
none_among s fresh ids id stale = absurd (not_both (s.marks id) (fresh id) stale)

pub none_rise : IsStrictlyIncreasing []
none_rise k within = absurd (omega (arith, within))

-- the ids behind the first ones rise
rise_drop : (n : ℕ) (ids : List ℕ) → IsStrictlyIncreasing ids → IsStrictlyIncreasing (drop n ids)
rise_drop n ids rise k within =
    let long : n + (k + 1) < length ids = omega (arith, within, length-drop n ids) in
    let same : n + k + 1 ≡ n + (k + 1) = omega arith in
    rw (get_or-drop n ids k 0, get_or-drop n ids (k + 1) 0) (subst (λ (i : ℕ). get_or ids (n + k) 0 < get_or ids i 0) same (rise (n + k) (omega (arith, long))))

-- the ids from this place on, where those before it are below the first
rest_from : (first : ℕ) (ids : List ℕ) (start done : ℕ) → start ≤ done → ((k : ℕ) → start ≤ k → k < done → get_or ids k 0 < first) → IsRestFrom first (drop start ids) (drop done ids)
rest_from first ids start done after below = record {
  count = done - start;
  is = ap (λ (n : ℕ). drop n ids) (sym the_place) ∙ sym (drop-drop (done - start) start ids);
  below = λ k within. rw (get_or-drop start ids k 0) (below (start + k) (omega arith) (omega (arith, within)));
}
  where
    the_place : start + (done - start) ≡ done
    the_place = omega arith

pub left_from : (o : Option ℕ) (first : ℕ) (ids : List ℕ) (start done : ℕ) → o ≡ Some first → start ≤ done → ((k : ℕ) → start ≤ k → k < done → get_or ids k 0 < first)
    → IfSome o (λ id. IsRestFrom id (drop start ids) (drop done ids))
left_from o first ids start done is after below = subst (λ (x : Option ℕ). IfSome x (λ id. IsRestFrom id (drop start ids) (drop done ids))) (sym is) (rest_from first ids start done after below)

-- ---- what is left behind a sweep

module _ (s t : State) (ids left : List ℕ) (first : ℕ) (covers : Covers s ids) (none : MakesNoneStale s t) (still : Covers t left) (head : slice_get left 0 ≡ Some first) where
  -- a stale conversation is not below the first that is left
  from_first : (id : ℕ) → IsStale (t.marks id) → first ≤ id
  from_first id stale =
      let has = still.each id stale in
      let at : get_or left has.0 0 ≡ id = get_or_default left has.0 0 id has.1 ∙ has.2 in
      let begin : get_or left 0 0 ≡ first = get_or_from_slice_get left 0 first 0 head in
      elim (cases_lt 0 has.0) [
        | inl later ↦ (let above = AllPairs-from_increasing left still.rise 0 has.0 0 later has.1 in omega (arith, above, at, begin))
        | inr here ↦ (let one : has.0 ≡ 0 = omega arith in omega (arith, sym (ap (λ (k : ℕ). get_or left k 0) one) ∙ at, begin))
      ]

  rest_has : (count : ℕ) → ((k : ℕ) → k < count → get_or ids k 0 < first) → (id : ℕ) → IsStale (t.marks id) → Contains (drop count ids) id
  rest_has count below id stale =
      let has = covers.each id (none id stale) in
      let at : get_or ids has.0 0 ≡ id = get_or_default ids has.0 0 id has.1 ∙ has.2 in
      let above = from_first id stale in
      elim (cases_lt has.0 count) [
        | inl before ↦ (let under = below has.0 before in absurd (omega (arith, under, at, above)))
        | inr after ↦ (
          has.0 - count,
          omega (arith, has.1, after, length-drop count ids),
          get_or-drop count ids (has.0 - count) id ∙ ap (λ (k : ℕ). get_or ids k id) (the_place has.0 after) ∙ has.2,
        )
      ]
    where
      the_place : (k : ℕ) → count ≤ k → count + (k - count) ≡ k
      the_place k after = omega arith

  -- what is left of the list has each conversation that is still stale
  pub rest_covers : (rest : List ℕ) → IsRestFrom first ids rest → Covers t rest
  rest_covers rest r = subst (Covers t) (sym r.is) (record { rise = rise_drop r.count ids covers.rise; each = rest_has r.count r.below })

-- where none is left, nothing is stale
pub none_left : (t : State) (left : List ℕ) → Covers t left → slice_get left 0 ≡ None → IsAllFresh t
none_left t [] covers e = all_fresh t (among_of t [] covers)
none_left t (x ∷ left) covers e = absurd (cc)

-- ---- sweeps before entries

pub swept_some : (s t : State) (listed : List ℕ) (p : Progress) → IsSweptSome s listed p t → IsSweptBefore s p.judged p.refused t
swept_some s t listed p h = record { turns = h.turns; sweep = h.sweep; few = h.few; enough = enough p.left.now h.left h.enough; renewed = h.judged }
  where
    enough : (left : List ℕ) → Covers t left → (0 < length left → (p.refused ≡ true) ⊎ (h.turns ≡ 64)) → (h.turns ≡ 64) ⊎ (IsAllFresh t ⊎ (p.refused ≡ true))
    enough [] covers more = inr (inl (all_fresh t (among_of t [] covers)))
    enough (x ∷ left) covers more = elim (more (omega arith)) [
      | inl memory ↦ inr (inr memory)
      | inr all ↦ inl all
    ]

-- nothing is stale
pub swept_nothing : (s : State) → IsAllFresh s → IsSweptBefore s 0 false s
swept_nothing s fresh = record { turns = 0; sweep = steps.sweep_none s; few = omega arith; enough = inr (inl fresh); renewed = (swept_none s []).renewed }

-- there is no memory for the list
pub swept_unlisted : (s : State) → IsSweptBefore s 0 true s
swept_unlisted s = record { turns = 0; sweep = steps.sweep_none s; few = omega arith; enough = inr (inr refl); renewed = (swept_none s []).renewed }

-- the last sweep, where nothing is stale
pub swept_rest_nothing : (s : State) → IsAllFresh s → IsSwept s (Some 0) s
swept_rest_nothing s fresh = (
  (0, steps.sweep_none s),
  fresh,
  (
    [],
    record {
      rise = none_rise;
      exact = λ id. (λ has. absurd (omega (arith, has.1)), λ stale. absurd (not_both (s.marks id) (fresh id) stale));
    },
    refl,
  ),
)
