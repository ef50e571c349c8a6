-- From the results of each shard and each pass to the places that agree.
use Rattle.std.proofs.Common.{◌≡◌, ◌<◌, ◌+◌, ◌%◌, ◌++◌, ◌∷◌, ◌∙◌, inl, inr, [], ℕ, true, false, List, Option, Some, None, IfSome, IsSome, All, is_some, length, slice_get, get_or, take, nat_eq, refl, sym, ap, subst, arith, eq-eqb, ne_eqb, eqb-true, true≢false, length-append}
use Rattle.std.specs.Cmp.{nat_eq_equiv}
use Rattle.std.specs.List.{IsDistinct}
use Rattle.std.specs.Map.{keys_of}
use Rattle.std.proofs.Math.ListN.{get_or-append}
use Rattle.std.proofs.lemmas.Bool.{cases_lt, cases_eq}
use Rattle.std.proofs.lemmas.List.{get_or_push, get_or_default}
use Rattle.std.proofs.lemmas.List.Elements.{All-push}
use Rattle.std.proofs.lemmas.Map.Entries.{place_from_lookup, lookup_from_place}
use Rattle.scrib_record.specs.Stale.{Recorded}
use Rattle.scrib_core.specs.Held.{Records, record_at}
use Rattle.scrib_locked_steps.specs.Shards.{ShardHeld}
use Rattle.scrib_locked_steps.specs.Receipts.{entry_at}
use Rattle.scrib_locked_steps.specs.Passes.{PassHeld}
use Rattle.scrib_settlement.specs.Shares.{no_shard, records_at, AreDistinct}
use Rattle.scrib_settlement.specs.Mismatches.{IsLeast, IsThere, PlaceAgrees, PlaceAgreesInShard, conversation_record, own_shard, receipts_of, events_at, earlier_of}
use Rattle.scrib_settlement.specs.declared.mismatch_place.MismatchPlace.{MismatchPlace}
use Rattle.scrib_settlement.proofs.LeastPlaceLemmas.{least_both, least_same}
use Rattle.scrib_settlement.proofs.ShardTallyLemmas.{take_step}

-- the place agrees as far as the passes and the first shards show
abbrev pub PlaceAgreesSoFar : ℕ → List ShardHeld → List PassHeld → ℕ → ℕ → Type 0
PlaceAgreesSoFar n shards passes id place = IsThere shards passes id place
    × ((k : ℕ) → k < n → PlaceAgreesInShard (length shards) k (records_at shards k) passes id place)

-- ---- passes

All-front : {X : Type 0} (P : X → Type 0) (xs : List X) (x : X) → All P (xs ++ x ∷ []) → All P xs
All-front P xs x all k d below = subst P (get_or-append xs (x ∷ []) d k below) (all k d (omega (arith, length-append xs (x ∷ []))))

All-end : {X : Type 0} (P : X → Type 0) (xs : List X) (x : X) → All P (xs ++ x ∷ []) → P x
All-end P xs x all = subst P (get_or_push xs x x (length xs) refl) (all (length xs) x (omega (arith, length-append xs (x ∷ []))))

-- one pass finds its conversation
abbrev pub OneIsThere : List ShardHeld → PassHeld → ℕ → ℕ → Type 0
OneIsThere shards p id place = place ≡ 1 → p.conversation ≡ id → IsSome (conversation_record shards id)

pub there_more : (shards : List ShardHeld) (ps : List PassHeld) (i : ℕ) (p : PassHeld) (a b : Option MismatchPlace) → i < length ps → p ≡ get_or ps i p
    → IsLeast (IsThere shards (take i ps)) a → IsLeast (OneIsThere shards p) b → IsLeast (IsThere shards (take (i + 1) ps)) (earlier_of a b)
there_more shards ps i p a b within is before last =
    rw (take_step ps i p within is) (least_same _ (IsThere shards (take i ps ++ p ∷ [])) (earlier_of a b)
    (λ id place both first. All-push (λ (q : PassHeld). q.conversation ≡ id → IsSome (conversation_record shards id)) (take i ps) p (both.0 first) (both.1 first))
    (λ id place all. (
      λ first. All-front (λ (q : PassHeld). q.conversation ≡ id → IsSome (conversation_record shards id)) (take i ps) p (all first),
      λ first. All-end (λ (q : PassHeld). q.conversation ≡ id → IsSome (conversation_record shards id)) (take i ps) p (all first),
    ))
    (least_both (IsThere shards (take i ps)) (OneIsThere shards p) a b before last))

-- ---- shards

-- the shard read at an index has this number
pub records_read : (shards : List ShardHeld) (n : ℕ) (s : ShardHeld) → n < length shards → s ≡ get_or shards n s → s.records ≡ records_at shards n
records_read shards n s within is = ap (λ (x : ShardHeld). x.records) (is ∙ get_or_default shards n s no_shard within)

pub so_far_more : (n : ℕ) (shards : List ShardHeld) (passes : List PassHeld) (rs : Records) (a b : Option MismatchPlace) → rs ≡ records_at shards n
    → IsLeast (PlaceAgreesSoFar n shards passes) a → IsLeast (PlaceAgreesInShard (length shards) n rs passes) b → IsLeast (PlaceAgreesSoFar (n + 1) shards passes) (earlier_of a b)
so_far_more n shards passes rs a b at before last =
    least_same _ (PlaceAgreesSoFar (n + 1) shards passes) (earlier_of a b) to from (least_both (PlaceAgreesSoFar n shards passes) (PlaceAgreesInShard (length shards) n rs passes) a b before last)
  where
    to : (id place : ℕ) → PlaceAgreesSoFar n shards passes id place × PlaceAgreesInShard (length shards) n rs passes id place → PlaceAgreesSoFar (n + 1) shards passes id place
    to id place both = (
      both.0.0,
      λ k below. elim (cases_lt k n) [
        | inl less ↦ both.0.1 k less
        | inr more ↦ (let same : n ≡ k = omega arith in
            subst (λ (j : ℕ). PlaceAgreesInShard (length shards) j (records_at shards j) passes id place) same
            (subst (λ (fs : Records). PlaceAgreesInShard (length shards) n fs passes id place) at both.1))
      ],
    )

    from : (id place : ℕ) → PlaceAgreesSoFar (n + 1) shards passes id place → PlaceAgreesSoFar n shards passes id place × PlaceAgreesInShard (length shards) n rs passes id place
    from id place all = (
      (all.0, λ k below. all.1 k (omega arith)),
      subst (λ (fs : Records). PlaceAgreesInShard (length shards) n fs passes id place) (sym at) (all.1 n (omega arith)),
    )

-- ---- all of them

-- the index of a record, by its id
index_at : (rs : Records) (id : ℕ) (r : Recorded) → record_at rs id ≡ Some r → (k : ℕ) × (slice_get rs k ≡ Some (id, r))
index_at rs id r e =
    let at = place_from_lookup (nat_eq id) rs r e in
    let same : at.1 ≡ id = sym (eqb-true id at.1 at.3) in
    (at.0, at.2 ∙ ap (λ (i : ℕ). let o : Option (ℕ × Recorded) = Some (i, r) in o) same)

agrees_events : (shards : List ShardHeld) (passes : List PassHeld) (id place : ℕ) → own_shard shards id < length shards
    → PlaceAgreesSoFar (length shards) shards passes id place → IfSome (conversation_record shards id) (λ r. events_at place (receipts_of id passes) ≡ entry_at place r.log)
agrees_events shards passes id place within all = by (conversation_record shards id) refl
  where
    by : (o : Option Recorded) → conversation_record shards id ≡ o → IfSome o (λ r. events_at place (receipts_of id passes) ≡ entry_at place r.log)
    by None e = tt
    by (Some r) e =
        let at = index_at (records_at shards (own_shard shards id)) id r e in
        (all.1 (own_shard shards id) within at.0 r at.1).0 (eq-eqb (id % length shards) (own_shard shards id) refl)

agrees_home : (shards : List ShardHeld) (passes : List PassHeld) (id place : ℕ) → PlaceAgreesSoFar (length shards) shards passes id place
    → place ≡ 1 → (k : ℕ) → k < length shards → IsSome (record_at (records_at shards k) id) → k ≡ own_shard shards id
agrees_home shards passes id place all first k within there = by (record_at (records_at shards k) id) refl there
  where
    by : (o : Option Recorded) → record_at (records_at shards k) id ≡ o → IsSome o → k ≡ own_shard shards id
    by None e some = absurd (true≢false (sym some))
    by (Some r) e some =
        let at = index_at (records_at shards k) id r e in
        elim (cases_eq (own_shard shards id) k) [
          | inl own ↦ sym own
          | inr other ↦ absurd ((all.1 k within at.0 r at.1).1 (ne_eqb (own_shard shards id) k other) first)
        ]

agrees_in : (shards : List ShardHeld) (passes : List PassHeld) (id place k : ℕ) → IsDistinct nat_eq (keys_of (records_at shards k)) → k < length shards
    → PlaceAgrees shards passes id place → PlaceAgreesInShard (length shards) k (records_at shards k) passes id place
agrees_in shards passes id place k distinct within agrees index r here = (told, home)
  where
    found : record_at (records_at shards k) id ≡ Some r
    found = lookup_from_place nat_eq_equiv (records_at shards k) index id r distinct here

    told : nat_eq (id % length shards) k ≡ true → events_at place (receipts_of id passes) ≡ entry_at place r.log
    told b =
        let own : own_shard shards id ≡ k = eqb-true (id % length shards) k b in
        let mine : conversation_record shards id ≡ Some r = ap (λ (j : ℕ). record_at (records_at shards j) id) own ∙ found in
        subst (λ (o : Option Recorded). IfSome o (λ s. events_at place (receipts_of id passes) ≡ entry_at place s.log)) mine agrees.entries

    home : nat_eq (id % length shards) k ≡ false → place ≡ 1 → ⊥
    home b first =
        let own : k ≡ own_shard shards id = agrees.home first k within (ap is_some found) in
        true≢false (sym (eq-eqb (id % length shards) k (sym own)) ∙ b)

pub agrees_all : (shards : List ShardHeld) (passes : List PassHeld) (o : Option MismatchPlace) → 0 < length shards → AreDistinct shards
    → IsLeast (PlaceAgreesSoFar (length shards) shards passes) o → IsLeast (PlaceAgrees shards passes) o
agrees_all shards passes o some distinct least =
    least_same (PlaceAgreesSoFar (length shards) shards passes) (PlaceAgrees shards passes) o
    (λ id place all. record {
      entries = agrees_events shards passes id place (omega arith) all;
      there = all.0;
      home = agrees_home shards passes id place all;
    })
    (λ id place agrees. (agrees.there, λ k within. agrees_in shards passes id place k (distinct k within) within agrees))
    least
