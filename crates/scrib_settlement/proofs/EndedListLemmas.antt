-- The list of all conversations.
use Rattle.std.proofs.Common.{◌≡◌, ◌<◌, ◌≤◌, ◌+◌, ◌++◌, ◌∷◌, ◌∙◌, ◌||◌, inl, inr, [], ℕ, zero, suc, List, Bool, true, false, Some, IsSome, IsPermutation, All, length, slice_get, get_or, map, flat_map, take, option_map, is_some, nat_eq, refl, sym, ap, subst, arith, eq-eqb, true≢false, append_assoc}
use Rattle.std.specs.List.{IsDistinct, AllByRecursion, list_any}
use Rattle.std.specs.List.Sorted.{IsNonDecreasingBy, IsNonDecreasing}
use Rattle.std.specs.Cmp.{nat_eq_equiv}
use Rattle.std.specs.Map.{keys_of}
use Rattle.std.proofs.lemmas.Bool.{cases_Bool, or_cases}
use Rattle.std.proofs.lemmas.List.{map-append, length-map, get_or-map, take_more, take_all, append-nil}
use Rattle.std.proofs.lemmas.List.Concat.{flat_map-append}
use Rattle.std.proofs.lemmas.List.Elements.{All-push, All-append}
use Rattle.std.proofs.lemmas.List.Folds.{list_any-append}
use Rattle.std.proofs.lemmas.List.Sorted.{IsPermutation-map}
use Rattle.std.proofs.lemmas.Map.Keys.{any_passes_from_place, IsDistinct-head, IsDistinct-tail, IsDistinct-cons, IsDistinct-IsPermutation, IsStrictlyIncreasing-from_distinct}
use Rattle.std.proofs.lemmas.Map.Made.{is_some-lookup}
use Rattle.std.proofs.lemmas.Option.{slice_get-map, slice_get_within, get_or_from_slice_get, slice_get_cases}
use Rattle.scrib_record.specs.Stale.{Recorded}
use Rattle.scrib_library.specs.Holdings.{Holdings}
use Rattle.scrib_core.specs.Held.{Records, record_at}
use Rattle.scrib_locked_steps.specs.Shards.{ShardHeld}
use Rattle.scrib_settlement.specs.Shares.{records_at, AreDistinct}
use Rattle.scrib_settlement.specs.Mismatches.{conversation_record, own_shard}
use Rattle.scrib_settlement.specs.Settled.{IsEnded, IsEndedIn, IsEndedOf, AreEnded, IsListed}
use Rattle.scrib_core.specs.declared.ended.Ended.{Ended}
use Rattle.scrib_settlement.proofs.ShardTallyLemmas.{take_step}

abbrev ids_of : List Ended → List ℕ
ids_of list = map (λ (e : Ended). e.id) list

-- ---- one shard

-- the record at an index is found by its id
pub some_at : (rs : Records) (i id : ℕ) (r : Recorded) → slice_get rs i ≡ Some (id, r) → IsSome (record_at rs id)
some_at rs i id r e =
    is_some-lookup (nat_eq id) rs
    ∙ any_passes_from_place (nat_eq id) (keys_of rs) i id (slice_get-map (λ (x : ℕ × Recorded). x.0) rs i ∙ ap (option_map (λ (x : ℕ × Recorded). x.0)) e) (eq-eqb id id refl)

-- the entries of the shard's first records
pub record AreEndedBelow (h : Holdings) (rs : Records) (n : ℕ) (old new : List Ended) : Type 0 where
  pub added : List Ended
  pub is : new ≡ old ++ added
  pub ids : ids_of added ≡ keys_of (take n rs)
  pub each : All (IsEndedIn h rs) added

pub ended_none : (h : Holdings) (rs : Records) (old : List Ended) → AreEndedBelow h rs 0 old old
ended_none h rs old = record { added = []; is = sym (append-nil old); ids = refl; each = λ k d below. absurd (omega (arith, below)) }

pub ended_more : (h : Holdings) (rs : Records) (n id : ℕ) (r : Recorded) (old now : List Ended) (e : Ended) → slice_get rs n ≡ Some (id, r) → e.id ≡ id → IsEndedIn h rs e
    → AreEndedBelow h rs n old now → AreEndedBelow h rs (n + 1) old (now ++ e ∷ [])
ended_more h rs n id r old now e here same ended so_far =
    let x : ℕ × Recorded = (id, r) in
    let more : take (n + 1) rs ≡ take n rs ++ x ∷ [] =
    take_more rs n x (slice_get_within rs n x here) ∙ ap (λ (y : ℕ × Recorded). take n rs ++ y ∷ []) (get_or_from_slice_get rs n x x here) in
    record {
      added = so_far.added ++ e ∷ [];
      is = ap (λ (xs : List Ended). xs ++ e ∷ []) so_far.is ∙ append_assoc old so_far.added (e ∷ []);
      ids = map-append (λ (y : Ended). y.id) so_far.added (e ∷ [])
          ∙ ap (λ (ks : List ℕ). ks ++ e.id ∷ []) so_far.ids
          ∙ ap (λ (i : ℕ). keys_of (take n rs) ++ i ∷ []) same
          ∙ sym (map-append (λ (y : ℕ × Recorded). y.0) (take n rs) (x ∷ []))
          ∙ ap keys_of (sym more);
      each = All-push (IsEndedIn h rs) so_far.added e so_far.each ended;
    }

-- ---- the shards one after another

pub record AreEndedUpTo (h : Holdings) (shards : List ShardHeld) (n : ℕ) (list : List Ended) : Type 0 where
  pub ids : ids_of list ≡ flat_map (λ (s : ShardHeld). keys_of s.records) (take n shards)
  pub each : All (IsEndedOf h shards) list

pub shards_more : (h : Holdings) (shards : List ShardHeld) (n : ℕ) (s : ShardHeld) (old new : List Ended) → n < length shards → s ≡ get_or shards n s → s.records ≡ records_at shards n
    → AreEndedUpTo h shards n old → AreEnded h s.records old new → AreEndedUpTo h shards (n + 1) new
shards_more h shards n s old new within is read so_far one =
    let keys : ShardHeld → List ℕ = λ (x : ShardHeld). keys_of x.records in
    record {
      ids = ap ids_of one.is ∙ map-append (λ (y : Ended). y.id) old one.added
          ∙ ap (λ (ks : List ℕ). ks ++ ids_of one.added) so_far.ids
          ∙ ap (λ (ks : List ℕ). flat_map keys (take n shards) ++ ks) (one.ids ∙ sym (append-nil (keys_of s.records)))
          ∙ sym (flat_map-append keys (take n shards) (s ∷ []))
          ∙ ap (flat_map keys) (sym (take_step shards n s within is));
      each = subst (All (IsEndedOf h shards)) (sym one.is)
          (All-append (IsEndedOf h shards) old one.added so_far.each
          (λ k d below. (n, within, subst (λ (rs : Records). IsEndedIn h rs (get_or one.added k d)) read (one.each k d below))));
    }

pub ids_sorted : (shards : List ShardHeld) (n : ℕ) (list sorted : List Ended) → length shards ≤ n → ids_of list ≡ flat_map (λ (s : ShardHeld). keys_of s.records) (take n shards)
    → IsPermutation list sorted → IsPermutation (flat_map (λ (s : ShardHeld). keys_of s.records) shards) (ids_of sorted)
ids_sorted shards n list sorted all ids moved =
    subst (λ (ks : List ℕ). IsPermutation ks (ids_of sorted)) (ids ∙ ap (flat_map (λ (s : ShardHeld). keys_of s.records)) (take_all n shards all))
    (IsPermutation-map (λ (e : Ended). e.id) list sorted moved)

-- ---- ids of all shards differ

apart_append : (x : ℕ) (ks js : List ℕ) → AllByRecursion (λ y. nat_eq x y ≡ false) ks → list_any (nat_eq x) js ≡ false → AllByRecursion (λ y. nat_eq x y ≡ false) (ks ++ js)
apart_append x [] [] all none = tt
apart_append x [] (j ∷ js) all none = by (nat_eq x j) refl none (apart_append x [] js tt)
  where
    by : (b : Bool) → nat_eq x j ≡ b → (b || list_any (nat_eq x) js) ≡ false → (list_any (nat_eq x) js ≡ false → AllByRecursion (λ y. nat_eq x y ≡ false) js)
        → (nat_eq x j ≡ false) × AllByRecursion (λ y. nat_eq x y ≡ false) js
    by true e h rest = absurd (true≢false h)
    by false e h rest = (e, rest h)
apart_append x (k ∷ ks) js all none = (all.0, apart_append x ks js all.1 none)

distinct_append : (ks js : List ℕ) → IsDistinct nat_eq ks → IsDistinct nat_eq js → ((x : ℕ) → list_any (nat_eq x) ks ≡ true → list_any (nat_eq x) js ≡ false) → IsDistinct nat_eq (ks ++ js)
distinct_append [] js p q apart = q
distinct_append (k ∷ ks) js p q apart =
    IsDistinct-cons nat_eq k (ks ++ js)
    (apart_append k ks js (IsDistinct-head nat_eq k ks p) (apart k (ap (λ (b : Bool). b || list_any (nat_eq k) ks) (eq-eqb k k refl))))
    (distinct_append ks js (IsDistinct-tail nat_eq k ks p) q (λ x h. apart x (later x (nat_eq x k) h)))
  where
    later : (x : ℕ) (b : Bool) → list_any (nat_eq x) ks ≡ true → (b || list_any (nat_eq x) ks) ≡ true
    later x true h = refl
    later x false h = h

-- an id of all shards is an id of some shard
id_of_some : (x : ℕ) (shards : List ShardHeld) → list_any (nat_eq x) (flat_map (λ (s : ShardHeld). keys_of s.records) shards) ≡ true
    → (k : ℕ) × (k < length shards) × (list_any (nat_eq x) (keys_of (records_at shards k)) ≡ true)
id_of_some x [] h = absurd (true≢false (sym h))
id_of_some x (s ∷ rest) h =
    elim (or_cases (list_any (nat_eq x) (keys_of s.records)) (list_any (nat_eq x) (flat_map (λ (t : ShardHeld). keys_of t.records) rest))
    (sym (list_any-append (nat_eq x) (keys_of s.records) (flat_map (λ (t : ShardHeld). keys_of t.records) rest)) ∙ h)) [
      | inl here ↦ (zero, omega arith, here)
      | inr there ↦ (let k = id_of_some x rest there in (suc k.0, omega (arith, k.1), k.2))
    ]

-- the ids are distinct if each is of one shard at most
distinct_all : (own : ℕ → ℕ) (from : ℕ) (shards : List ShardHeld) → AreDistinct shards
    → ((x k : ℕ) → k < length shards → list_any (nat_eq x) (keys_of (records_at shards k)) ≡ true → from + k ≡ own x)
    → IsDistinct nat_eq (flat_map (λ (s : ShardHeld). keys_of s.records) shards)
unfolding IsDistinct
distinct_all own from [] distinct home = tt
distinct_all own from (s ∷ rest) distinct home =
    distinct_append (keys_of s.records) (flat_map (λ (t : ShardHeld). keys_of t.records) rest) (distinct 0 (omega arith))
    (distinct_all own (from + 1) rest (λ k below. distinct (suc k) (omega arith)) (λ x k below h. let at : from + suc k ≡ own x = home x (suc k) (omega arith) h in omega (arith, at)))
    (λ x h. elim (cases_Bool (list_any (nat_eq x) (flat_map (λ (t : ShardHeld). keys_of t.records) rest))) [
      | inl there ↦
          (let k = id_of_some x rest there in
          let first : from + 0 ≡ own x = home x 0 (omega arith) h in
          let second : from + suc k.0 ≡ own x = home x (suc k.0) (omega (arith, k.1)) k.2 in
          absurd (omega (arith, first, second)))
      | inr none ↦ none
    ])

order_of_ids : (list : List Ended) → IsNonDecreasingBy (λ (e : Ended). e.id) list → IsNonDecreasing (ids_of list)
order_of_ids list order i j d before within =
    let below : j < length list = omega (arith, length-map list (λ (e : Ended). e.id)) in
    elim (slice_get_cases list j).1 [
      | inl found ↦
          (let left : get_or (ids_of list) i d ≡ (get_or list i found.0).id = get_or-map (λ (e : Ended). e.id) list i found.0 d (omega arith) in
          let right : get_or (ids_of list) j d ≡ (get_or list j found.0).id = get_or-map (λ (e : Ended). e.id) list j found.0 d below in
          omega (arith, left, right, order i j found.0 before below))
      | inr past ↦ absurd (omega (arith, past.0))
    ]

-- every conversation once, by rising id
pub listed : (h : Holdings) (shards : List ShardHeld) (list : List Ended) → AreDistinct shards
    → ((id k : ℕ) → k < length shards → IsSome (record_at (records_at shards k) id) → k ≡ own_shard shards id)
    → IsPermutation (flat_map (λ (s : ShardHeld). keys_of s.records) shards) (ids_of list) → All (IsEndedOf h shards) list → IsNonDecreasingBy (λ (e : Ended). e.id) list
    → IsListed h shards list
listed h shards list distinct home all each order = record {
  all = all;
  rise = IsStrictlyIncreasing-from_distinct (ids_of list) (order_of_ids list order)
      (IsDistinct-IsPermutation nat_eq nat_eq_equiv.symm (flat_map (λ (s : ShardHeld). keys_of s.records) shards) (ids_of list) all
      (distinct_all (own_shard shards) 0 shards distinct (λ x k below h. let at : k ≡ own_shard shards x = home x k below (is_some-lookup (nat_eq x) (records_at shards k) ∙ h) in omega (arith, at))));
  each = λ i d below. own (get_or list i d) (each i d below);
}
  where
    own : (e : Ended) → IsEndedOf h shards e → (r : Recorded) × (conversation_record shards e.id ≡ Some r) × IsEnded h r e
    own e x =
        let at : x.0 ≡ own_shard shards e.id = home e.id x.0 x.1 (ap is_some x.2.1) in
        (x.2.0, subst (λ (k : ℕ). record_at (records_at shards k) e.id ≡ Some x.2.0) at x.2.1, x.2.2)
