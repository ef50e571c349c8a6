-- Listed conversations, swept one after another.
use Rattle.std.proofs.Common.{◌≡◌, ◌≢◌, ◌↔◌, ◌⊎◌, inl, inr, ℕ, ◌+◌, ◌-◌, ◌<◌, ◌≤◌, List, [], ◌∷◌, ◌++◌, Contains, length, get_or, drop, refl, sym, ap, subst, ◌∙◌, arith, length-append, length-drop}
use Rattle.std.specs.List.Sorted.{IsStrictlyIncreasing}
use Rattle.std.specs.Prelude.{Bool, true, false, IsTrue}
use Rattle.std.specs.Borrow.{Bor}
use Rattle.std.proofs.lemmas.Bool.{cases_eq, cases_lt, false≢true}
use Rattle.std.proofs.lemmas.List.{get_or_default, get_or-drop, get_or_append_left, get_or_push}
use Rattle.std.proofs.lemmas.List.Elements.{Contains-append_left, Contains-get_or, Contains-push, Contains-push_cases}
use Rattle.std.proofs.lemmas.List.Kept.{AllPairs-from_increasing}
use Rattle.scrib_core.specs.Marks.{Mark, Fresh, IsStale}
use Rattle.scrib_core.specs.Answers.{State}
use Rattle.scrib_sweep.specs.declared.conversation_turns.End.{End}
use Rattle.scrib_sweep.specs.declared.conversation_turns.End.TheVariants.{Judged, Limited, Refused}
use Rattle.scrib_sweep.specs.Sweeps.{AreStale, Covers, IsAllFresh, IsFirstStale, IsSweep, IsStaleCount, IsRenewedCount, IsSweptSome}
use Rattle.scrib_sweep.specs.ConversationTurns.{AreTurnsOf, EndsBy}
use Rattle.scrib_sweep.proofs.TurnEffects.{fresh_or_stale, not_both}
use Rattle.scrib_sweep.proofs.SweepSteps.{sweep_none, sweep_both}

-- ---- rising ids

-- a greater id behind rising ones
module _ (ids : List ℕ) (id : ℕ) (rise : IsStrictlyIncreasing ids) (below : (j : ℕ) → Contains ids j → j < id) where
  rise_push : IsStrictlyIncreasing (ids ++ id ∷ [])
  rise_push k within = elim (cases_lt (k + 1) (length ids)) [
    | inl inside ↦ rw (get_or_append_left ids (id ∷ []) 0 k (omega (arith, inside)), get_or_append_left ids (id ∷ []) 0 (k + 1) inside) (rise k inside)
    | inr end ↦
        (let last : length ids ≡ k + 1 = omega (arith, end, within, length-append ids (id ∷ [])) in
        let under : get_or ids k 0 < id = below (get_or ids k 0) (Contains-get_or ids k 0 (omega (arith, last))) in
        rw (get_or_append_left ids (id ∷ []) 0 k (omega (arith, last)), get_or_push ids id 0 (k + 1) last) under)
  ]

-- the ids behind the first ones rise
rise_drop : (n : ℕ) (ids : List ℕ) → IsStrictlyIncreasing ids → IsStrictlyIncreasing (drop n ids)
rise_drop n ids rise k within =
    let long : n + (k + 1) < length ids = omega (arith, within, length-drop n ids) in
    let same : n + k + 1 ≡ n + (k + 1) = omega arith in
    rw (get_or-drop n ids k 0, get_or-drop n ids (k + 1) 0) (subst (λ (i : ℕ). get_or ids (n + k) 0 < get_or ids i 0) same (rise (n + k) (omega (arith, long))))

-- ---- conversations that had their turns

-- the first conversations of the list had their turns, and those that come later had none
pub record IsSweptSoFar (s : State) (ids : List ℕ) (i turns judged : ℕ) (t : State) : Type 0 where
  pub sweep : IsSweep s turns t
  pub done : (k : ℕ) → k < i → t.marks (get_or ids k 0) ≡ Fresh
  pub later : (k : ℕ) → i ≤ k → k < length ids → t.marks (get_or ids k 0) ≡ s.marks (get_or ids k 0)
  pub kept : (j : ℕ) → IsStale (t.marks j) → IsStale (s.marks j)
  pub renewed : IsRenewedCount s t judged

-- at the start no stale conversation is renewed
pub swept_none : (s : State) (ids : List ℕ) → IsSweptSoFar s ids 0 0 0 s
swept_none s ids = record {
  sweep = sweep_none s;
  done = λ k below. absurd (omega (arith, below));
  later = λ k from within. refl;
  kept = λ j stale. stale;
  renewed = (
    [],
    record {
      rise = λ k within. absurd (omega (arith, within));
      exact = λ j. (λ has. absurd (omega (arith, has.1)), λ both. absurd (not_both (s.marks j) both.1 both.0));
    },
    refl,
  );
}

module _ (s : State) (ids : List ℕ) (covers : Covers s ids) where
  -- where a stale conversation is in the list
  place : (j : ℕ) → IsStale (s.marks j) → (k : ℕ) × (k < length ids) × (get_or ids k 0 ≡ j)
  place j stale =
      let has = covers.each j stale in
      (has.0, has.1, get_or_default ids has.0 0 j has.1 ∙ has.2)

  less : (k l : ℕ) → k < l → l < length ids → get_or ids k 0 < get_or ids l 0
  less k l before within = AllPairs-from_increasing ids covers.rise k l 0 before within

  module _ (i turns judged : ℕ) (t : State) (so_far : IsSweptSoFar s ids i turns judged t) where
    -- a stale conversation is not among the first ones
    from : (j : ℕ) → IsStale (t.marks j) → (k : ℕ) × (i ≤ k) × (k < length ids) × (get_or ids k 0 ≡ j)
    from j stale =
        let at = place j (so_far.kept j stale) in
        elim (cases_lt at.0 i) [
          | inl below ↦ absurd (not_both (t.marks j) (subst (λ (n : ℕ). t.marks n ≡ Fresh) at.2 (so_far.done at.0 below)) stale)
          | inr later ↦ (at.0, later, at.1, at.2)
        ]

    -- the next conversation of the list is the first stale one, if it is stale
    pub next_first : i < length ids → IsStale (t.marks (get_or ids i 0)) → IsFirstStale t (get_or ids i 0)
    next_first within stale = record {
      stale = stale;
      least = λ j other.
          let at = from j other in
          elim (cases_lt i at.0) [
            | inl before ↦ (let above = less i at.0 before at.2 in omega (arith, above, at.3))
            | inr same ↦ (let one : i ≡ at.0 = omega (arith, same, at.1) in omega (arith, ap (λ (k : ℕ). get_or ids k 0) one, at.3))
          ];
    }

    -- the next conversation is not stale, so it has no turns
    pub swept_past : t.marks (get_or ids i 0) ≡ Fresh → IsSweptSoFar s ids (i + 1) turns judged t
    swept_past fresh = record {
      sweep = so_far.sweep;
      done = λ k below. elim (cases_lt k i) [
        | inl before ↦ so_far.done k before
        | inr same ↦ (let one : i ≡ k = omega arith in subst (λ (n : ℕ). t.marks (get_or ids n 0) ≡ Fresh) one fresh)
      ];
      later = λ k above within. so_far.later k (omega (arith, above)) within;
      kept = so_far.kept;
      renewed = so_far.renewed;
    }

    -- at the end no conversation is stale
    pub all_fresh : length ids ≤ i → IsAllFresh t
    all_fresh end j = elim (fresh_or_stale (t.marks j)) [
      | inl fresh ↦ fresh
      | inr stale ↦ (let at = from j stale in absurd (omega (arith, at.1, at.2, end)))
    ]

    module _ (more : ℕ) (u : State) (within : i < length ids) (first : IsFirstStale t (get_or ids i 0)) (made : AreTurnsOf t (get_or ids i 0) more u) where
      abbrev id : ℕ
      id = get_or ids i 0

      whole : IsSweep s (turns + more) u
      whole = sweep_both s t u turns more so_far.sweep made.sweep

      was_stale : IsStale (s.marks id)
      was_stale = so_far.kept id first.stale

      kept : (j : ℕ) → IsStale (u.marks j) → IsStale (s.marks j)
      kept j stale = elim (cases_eq j id) [
        | inl same ↦ subst (λ (n : ℕ). IsStale (s.marks n)) (sym same) was_stale
        | inr apart ↦ so_far.kept j (subst IsStale (made.others j apart) stale)
      ]

      before_done : (k : ℕ) → k < i → u.marks (get_or ids k 0) ≡ Fresh
      before_done k before =
          let under = less k i before within in
          let apart : get_or ids k 0 ≢ id = λ same. omega (arith, under, same) in
          made.others (get_or ids k 0) apart ∙ so_far.done k before

      -- what is renewed before has a lower id
      renewed_below : (j : ℕ) → Contains so_far.renewed.0 j → j < id
      renewed_below j has =
          let both = (so_far.renewed.1.exact j).0 has in
          let at = place j both.0 in
          elim (cases_lt at.0 i) [
            | inl before ↦ (let under = less at.0 i before within in omega (arith, under, at.2))
            | inr after ↦
                (let stale : IsStale (t.marks j) = subst (λ (n : ℕ). IsStale (t.marks n)) at.2 (subst IsStale (sym (so_far.later at.0 after at.1)) (subst (λ (n : ℕ). IsStale (s.marks n)) (sym at.2) both.0)) in
                absurd (not_both (t.marks j) both.1 stale))
          ]

      -- the turns ended where the conversation is not stale
      module _ (fresh : u.marks id ≡ Fresh) where
        abbrev longer : List ℕ
        longer = so_far.renewed.0 ++ id ∷ []

        to_renewed : (j : ℕ) → Contains longer j → IsStale (s.marks j) × (u.marks j ≡ Fresh)
        to_renewed j has = elim (Contains-push_cases so_far.renewed.0 id j has) [
          | inl old ↦
              (let both = (so_far.renewed.1.exact j).0 old in
              let under = renewed_below j old in
              let apart : j ≢ id = λ same. omega (arith, under, same) in
              (both.0, made.others j apart ∙ both.1))
          | inr same ↦ (subst (λ (n : ℕ). IsStale (s.marks n)) same was_stale, subst (λ (n : ℕ). u.marks n ≡ Fresh) same fresh)
        ]

        from_renewed : (j : ℕ) → IsStale (s.marks j) × (u.marks j ≡ Fresh) → Contains longer j
        from_renewed j both = elim (cases_eq j id) [
          | inl same ↦ subst (Contains longer) (sym same) (Contains-push so_far.renewed.0 id)
          | inr apart ↦ Contains-append_left so_far.renewed.0 (id ∷ []) j ((so_far.renewed.1.exact j).1 (both.0, sym (made.others j apart) ∙ both.1))
        ]

        pub swept_more : IsSweptSoFar s ids (i + 1) (turns + more) (judged + 1) u
        swept_more = record {
          sweep = whole;
          done = λ k below. elim (cases_lt k i) [
            | inl before ↦ before_done k before
            | inr same ↦ (let one : i ≡ k = omega arith in subst (λ (n : ℕ). u.marks (get_or ids n 0) ≡ Fresh) one fresh)
          ];
          later = λ k above inside.
              let over = less i k (omega (arith, above)) inside in
              let apart : get_or ids k 0 ≢ id = λ same. omega (arith, over, same) in
              made.others (get_or ids k 0) apart ∙ so_far.later k (omega (arith, above)) inside;
          kept = kept;
          renewed = (
            longer,
            record {
              rise = rise_push so_far.renewed.0 id so_far.renewed.1.rise renewed_below;
              exact = λ j. (to_renewed j, from_renewed j);
            },
            omega (arith, length-append so_far.renewed.0 (id ∷ []), so_far.renewed.2),
          );
        }

      -- the turns ended before the conversation is fresh
      module _ (stale : IsStale (u.marks id)) where
        still_renewed : (j : ℕ) → Contains so_far.renewed.0 j ↔ (IsStale (s.marks j) × (u.marks j ≡ Fresh))
        still_renewed j = elim (cases_eq j id) [
          | inl same ↦ (
            λ has. (let under = renewed_below j has in absurd (omega (arith, under, same))),
            λ both. absurd (not_both (u.marks j) both.1 (subst (λ (n : ℕ). IsStale (u.marks n)) (sym same) stale)),
          )
          | inr apart ↦ (
            λ has. (let both = (so_far.renewed.1.exact j).0 has in (both.0, made.others j apart ∙ both.1)),
            λ both. (so_far.renewed.1.exact j).1 (both.0, sym (made.others j apart) ∙ both.1),
          )
        ]

        pub stopped_renewed : IsRenewedCount s u judged
        stopped_renewed = (so_far.renewed.0, record { rise = so_far.renewed.1.rise; exact = still_renewed }, so_far.renewed.2)

        pub stopped_sweep : IsSweep s (turns + more) u
        stopped_sweep = whole

        pub stopped_left : Covers u (drop i ids)
        stopped_left = record {
          rise = rise_drop i ids covers.rise;
          each = λ j still.
              let at = place j (kept j still) in
              elim (cases_lt at.0 i) [
                | inl before ↦ absurd (not_both (u.marks j) (subst (λ (n : ℕ). u.marks n ≡ Fresh) at.2 (before_done at.0 before)) still)
                | inr after ↦ (
                  at.0 - i,
                  omega (arith, at.1, after, length-drop i ids),
                  get_or-drop i ids (at.0 - i) j ∙ ap (λ (k : ℕ). get_or ids k j) (the_place at.0 after) ∙ sym (get_or_default ids at.0 0 j at.1) ∙ at.2,
                )
              ];
        }
          where
            the_place : (k : ℕ) → i ≤ k → i + (k - i) ≡ k
            the_place k after = omega arith

-- the part of a sweep that is stopped at a conversation
module _ (s : State) (ids : List ℕ) (covers : Covers s ids) (i limit judged : ℕ) (t : State) (so_far : IsSweptSoFar s ids i (64 - limit) judged t)
    (more : ℕ) (u : State) (within : i < length ids) (first : IsFirstStale t (get_or ids i 0)) (made : AreTurnsOf t (get_or ids i 0) more u) (most : limit ≤ 64) (few : more ≤ limit) where
  by_end : (left : Bor (List ℕ)) (refused : Bool) → left.now ≡ drop i ids → IsStale (u.marks (get_or ids i 0)) → (refused ≡ true) ⊎ (more ≡ limit) → IsSweptSome s ids (record { judged = judged; left = left; refused = refused }) u
  by_end left refused rest stale why = record {
    turns = 64 - limit + more;
    sweep = stopped_sweep s ids covers i (64 - limit) judged t so_far more u within first made stale;
    few = omega (arith, most, few);
    judged = stopped_renewed s ids covers i (64 - limit) judged t so_far more u within first made stale;
    left = subst (Covers u) (sym rest) (stopped_left s ids covers i (64 - limit) judged t so_far more u within first made stale);
    enough = λ some. elim why [
      | inl memory ↦ inl memory
      | inr all ↦ inr (omega (arith, most, all))
    ];
  }

  pub stopped : (end : End) → EndsBy end u (get_or ids i 0) limit more → (end ≡ Judged → ⊥) → (left : Bor (List ℕ)) (refused : Bool) → left.now ≡ drop i ids → (end ≡ Refused → refused ≡ true)
      → IsSweptSome s ids (record { judged = judged; left = left; refused = refused }) u
  stopped Judged ends other left refused rest memory = absurd (other refl)
  stopped Limited ends other left refused rest memory = by_end left refused rest ends.0 (inr ends.1)
  stopped Refused ends other left refused rest memory = by_end left refused rest ends (inl (memory refl))

-- where nothing is stale, an empty list has each stale conversation
pub nothing_left : (t : State) → IsAllFresh t → Covers t []
nothing_left t fresh = record {
  rise = λ k within. absurd (omega (arith, within));
  each = λ j stale. absurd (not_both (t.marks j) (fresh j) stale);
}

-- the list of the stale conversations has each of them
pub stale_covers : (s : State) (ids : List ℕ) → AreStale s ids → Covers s ids
stale_covers s ids stale = record { rise = stale.rise; each = λ j. (stale.exact j).1 }

-- a mark for which the test of being stale is false
pub not_stale : (m : Mark) (test : Bool) → test ≡ false → (IsStale m → IsTrue test) → m ≡ Fresh
not_stale m test fails so = elim (fresh_or_stale m) [
  | inl fresh ↦ fresh
  | inr stale ↦ absurd (false≢true (sym fails ∙ so stale))
]

-- the next conversation of the list of the stale ones is still stale
pub still_listed : (s : State) (ids : List ℕ) (stale : AreStale s ids) (i turns judged : ℕ) (t : State) → IsSweptSoFar s ids i turns judged t → i < length ids → IsStale (t.marks (get_or ids i 0))
still_listed s ids stale i turns judged t so_far within =
    subst IsStale (sym (so_far.later i (omega arith) within)) ((stale.exact (get_or ids i 0)).0 (Contains-get_or ids i 0 within))

-- how many conversations were stale
pub stale_count : (s : State) (ids : List ℕ) → AreStale s ids → IsStaleCount s (length ids)
stale_count s ids stale = (ids, stale, refl)
