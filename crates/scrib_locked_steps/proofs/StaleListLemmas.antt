-- Which records are stale: the case of one more name, and the list by rising id.
use Rattle.std.proofs.Common.{◌≡◌, ◌⊎◌, ◌<◌, ◌≤◌, ◌+◌, ◌++◌, ◌∷◌, ◌∙◌, inl, inr, [], ℕ, Bool, true, false, List, Option, Some, None, All, Contains, IsPermutation, length, slice_get, get_or, option_map, nat_eq, suc, ◌&&◌, ◌≢◌, refl, sym, ap, subst, arith, true≢false}
use Rattle.std.specs.Prelude.{Vec}
use Rattle.std.specs.declared.alloc.Global.{Global}
use Rattle.std.specs.List.{IsDistinct, list_any, filter}
use Rattle.std.specs.List.Sorted.{IsNonDecreasing}
use Rattle.std.specs.Map.{keys_of, lookup}
use Rattle.std.specs.Cmp.{nat_eq_equiv, IsEquivalence}
use Rattle.std.proofs.lemmas.Bool.{cases_lt}
use Rattle.std.proofs.lemmas.Bool.Decides.{Decides-eqb}
use Rattle.std.proofs.lemmas.Cmp.{on_equiv, lists_equiv, nat_list_eq_equiv}
use Rattle.std.proofs.lemmas.List.Elements.{All-nil, All-append, All-contains, Contains-append_left, Contains-append_right, Contains-append_cases, Contains-get_or, Contains-push}
use Rattle.std.proofs.lemmas.List.Sorted.{All-permutation, Contains-permutation}
use Rattle.std.proofs.lemmas.Map.Entries.{place_from_lookup, lookup_from_place}
use Rattle.std.proofs.lemmas.Map.Keys.{IsDistinct-push, apart_from_distinct, IsDistinct-IsPermutation, IsStrictlyIncreasing-from_distinct}
use Rattle.std.proofs.lemmas.Map.Views.{Contains-from_any, list_any-from_Contains, any-filter_same}
use Rattle.std.proofs.lemmas.Map.Made.{IsDistinct-from_AllPairs, AllPairs-from_IsDistinct}
use Rattle.std.proofs.lemmas.List.Kept.{AllPairs-filter}
use Rattle.std.proofs.lemmas.List.{append-nil, append_assoc}
use Rattle.std.proofs.lemmas.Option.{slice_get_within, slice_get-map, get_or_from_slice_get}
use Rattle.scrib_static_checks.specs.Names.{dotted_eq}
use Rattle.scrib_static_checks.proofs.NameLemmas.{dotted_eq-Decides}
use Rattle.scrib_record.specs.declared.version.Version.{Version}
use Rattle.scrib_record.specs.Stale.{Recorded, is_stale}
use Rattle.scrib_library.specs.Holdings.{Holdings}
use Rattle.scrib_core.specs.Held.{Records, record_at}
use Rattle.scrib_core.specs.ConversationSteps.{IsPresent}
use Rattle.scrib_locked_steps.specs.declared.index.ProtocolName.{ProtocolName}
use Rattle.scrib_locked_steps.specs.Indexing.{Listing, IsIndex, AreIdsOf, listed_ids, ids_in, key_name}
use Rattle.scrib_locked_steps.specs.Sweeping.{IsStaleNow, IsFreshNow, IsStaleAt, AreStaleIds, is_stale_of, stale_ids_of}
use Rattle.scrib_locked_steps.proofs.NameIndexLemmas.{tail_distinct}

same_some : {X : Type 0} (x y : X) → Some x ≡ Some y → x ≡ y
same_some x y e = cc

-- the name of the record under the id is listed_ids below this place, and the record is stale
abbrev pub IsStaleUnder : Holdings → Records → Listing → ℕ → ℕ → Type 0
IsStaleUnder h rs es n id =
    (k : ℕ) × (key : ProtocolName) × (v : Vec ℕ Global) × (r : Recorded) × (k < n) × (slice_get es k ≡ Some (key, v)) × (record_at rs id ≡ Some r) × (key.name ≡ r.name) × IsStaleNow h r

-- exactly the stale records of the first names are listed_ids
pub record AreTouchedUnder (h : Holdings) (rs : Records) (es : Listing) (n : ℕ) (ids : List ℕ) : Type 0 where
  pub distinct : IsDistinct nat_eq ids
  pub stale : All (IsStaleUnder h rs es n) ids
  pub others : (k : ℕ) (key : ProtocolName) (v : Vec ℕ Global) (id : ℕ) (r : Recorded) → k < n → slice_get es k ≡ Some (key, v) → record_at rs id ≡ Some r → key.name ≡ r.name
      → Contains ids id ⊎ IsFreshNow h r

pub touched_none : (h : Holdings) (rs : Records) (es : Listing) → AreTouchedUnder h rs es 0 []
unfolding IsDistinct
touched_none h rs es = record { distinct = tt; stale = All-nil (IsStaleUnder h rs es 0); others = λ k key v id r below e f g. absurd (omega (arith, below)) }

-- ---- names of one index

abbrev names_equal : ProtocolName → ProtocolName → Bool
names_equal a b = dotted_eq a.name b.name

names_equiv : IsEquivalence names_equal
names_equiv = on_equiv key_name (lists_equiv nat_list_eq_equiv)

names_alike : (a b : ProtocolName) → a.name ≡ b.name → names_equal a b ≡ true
names_alike a b e = (dotted_eq-Decides a.name b.name).1 e

-- the list at an index of the map is that of its name
listed_at : (es : Listing) (k : ℕ) (key : ProtocolName) (v : Vec ℕ Global) → IsDistinct names_equal (keys_of es) → slice_get es k ≡ Some (key, v) → listed_ids key.name es ≡ v.items
listed_at es k key v distinct at = ap ids_in (lookup_from_place names_equiv es k key v distinct at)

-- entries of one name are at one index
apart_names : (es : Listing) (k n : ℕ) (key other : ProtocolName) (v w : Vec ℕ Global) → IsDistinct names_equal (keys_of es) → slice_get es k ≡ Some (key, v) → slice_get es n ≡ Some (other, w)
    → k < n → key.name ≡ other.name → ⊥
apart_names es k n key other v w distinct at there below same =
    let first : get_or (keys_of es) k key ≡ key = get_or_from_slice_get (keys_of es) k key key (key_at k key v at) in
    let second : get_or (keys_of es) n key ≡ other = get_or_from_slice_get (keys_of es) n other key (key_at n other w there) in
    let within : n < length (keys_of es) = slice_get_within (keys_of es) n other (key_at n other w there) in
    let differ : names_equal (get_or (keys_of es) k key) (get_or (keys_of es) n key) ≡ false = apart_from_distinct names_equal (keys_of es) k n key distinct below within in
    true≢false (sym (names_alike (get_or (keys_of es) k key) (get_or (keys_of es) n key) (ap key_name first ∙ same ∙ ap key_name (sym second))) ∙ differ)
  where
    key_at : (i : ℕ) (x : ProtocolName) (y : Vec ℕ Global) → slice_get es i ≡ Some (x, y) → slice_get (keys_of es) i ≡ Some x
    key_at i x y h = slice_get-map (λ (e : ProtocolName × Vec ℕ Global). e.0) es i ∙ ap (option_map (λ (e : ProtocolName × Vec ℕ Global). e.0)) h

-- ---- a filtered list, appended to another

module _ (test : ℕ → Bool) (xs : List ℕ) (y : ℕ) where
  alike_test : (b : Bool) → test y ≡ b → list_any (nat_eq y) (filter test xs) ≡ (b && list_any (nat_eq y) xs)
  alike_test b e = any-filter_same (nat_eq y) test b (λ k t. ap test (sym ((Decides-eqb y k).0 t)) ∙ e) xs

  in_filter : Contains (filter test xs) y → (test y ≡ true) × Contains xs y
  in_filter has = by (test y) refl (list_any-from_Contains nat_eq_equiv y (filter test xs) has)
    where
      by : (b : Bool) → test y ≡ b → list_any (nat_eq y) (filter test xs) ≡ true → (test y ≡ true) × Contains xs y
      by true e found = (e, Contains-from_any (λ a b. (Decides-eqb a b).0) y xs (sym (alike_test true e) ∙ found))
      by false e found = absurd (true≢false (sym found ∙ alike_test false e))

  to_filter : test y ≡ true → Contains xs y → Contains (filter test xs) y
  to_filter e has = Contains-from_any (λ a b. (Decides-eqb a b).0) y (filter test xs) (alike_test true e ∙ list_any-from_Contains nat_eq_equiv y xs has)

distinct_filter : (test : ℕ → Bool) (xs : List ℕ) → IsDistinct nat_eq xs → IsDistinct nat_eq (filter test xs)
distinct_filter test xs d =
    IsDistinct-from_AllPairs Decides-eqb (filter test xs) (AllPairs-filter (λ (x y : ℕ). x ≢ y) test xs (AllPairs-from_IsDistinct Decides-eqb xs d))

distinct_append : (xs ys : List ℕ) → IsDistinct nat_eq xs → IsDistinct nat_eq ys → ((x : ℕ) → Contains xs x → Contains ys x → ⊥) → IsDistinct nat_eq (xs ++ ys)
distinct_append xs [] d e apart = subst (IsDistinct nat_eq) (sym (append-nil xs)) d
distinct_append xs (y ∷ ys) d e apart =
    subst (IsDistinct nat_eq) (append_assoc xs (y ∷ []) ys)
    (distinct_append (xs ++ y ∷ []) ys (IsDistinct-push nat_eq_equiv xs y d (absent (list_any (nat_eq y) xs) refl)) (tail_distinct y ys e) later)
  where
    absent : (b : Bool) → list_any (nat_eq y) xs ≡ b → b ≡ false
    absent false found = refl
    absent true found = absurd (apart y (Contains-from_any (λ a b. (Decides-eqb a b).0) y xs found) (Contains-append_left (y ∷ []) ys y (Contains-push [] y)))

    alone : (x : ℕ) → Contains (y ∷ []) x → y ≡ x
    alone x has = let first : has.0 ≡ 0 = omega (arith, has.1) in ap (λ (i : ℕ). get_or (y ∷ []) i x) (sym first) ∙ has.2

    later : (x : ℕ) → Contains (xs ++ y ∷ []) x → Contains ys x → ⊥
    later x has more = elim (Contains-append_cases xs (y ∷ []) x has) [
      | inl old ↦ apart x old (Contains-append_right (y ∷ []) ys x more)
      | inr new ↦ AllPairs-from_IsDistinct Decides-eqb (y ∷ ys) e 0 (suc more.0) x (omega arith) (omega (arith, more.1)) (alone x new ∙ sym (more.2))
    ]

-- ---- the records of one more name

module _ (h : Holdings) (rs : Records) (es : Listing) (n : ℕ) (key : ProtocolName) (v : Vec ℕ Global) (present : Option Version) (ids : List ℕ)
    (names : IsDistinct names_equal (keys_of es)) (index : IsIndex es rs) (at : slice_get es n ≡ Some (key, v))
    (here : IsPresent h key.name present) (so_far : AreTouchedUnder h rs es n ids) where
  own : AreIdsOf key.name rs v.items
  own = subst (AreIdsOf key.name rs) (listed_at es n key v names at) (index key.name)

  abbrev test : ℕ → Bool
  test id = is_stale_of present (record_at rs id)

  -- a record that is found under the name
  found : (id : ℕ) → Contains (filter test v.items) id → (r : Recorded) × (record_at rs id ≡ Some r) × (key.name ≡ r.name) × (is_stale present r ≡ true)
  found id has =
      let parts = in_filter test v.items id has in
      let there = own.only id parts.1 in
      (there.0, there.1, there.2, sym (ap (is_stale_of present) there.1) ∙ parts.0)

  stale_longer : (id : ℕ) → IsStaleUnder h rs es n id → IsStaleUnder h rs es (n + 1) id
  stale_longer id s = (s.0, s.1, s.2, s.3, omega (arith, s.4), s.5, s.6, s.7, s.8)

  stale_here : (id : ℕ) → Contains (filter test v.items) id → IsStaleUnder h rs es (n + 1) id
  stale_here id has =
      let f = found id has in
      (n, key, v, f.0, omega arith, at, f.1, f.2, (present, subst (λ (m : List (List ℕ)). IsPresent h m present) f.2 here, f.3))

  apart : (id : ℕ) → Contains ids id → Contains (filter test v.items) id → ⊥
  apart id old new =
      let f = found id new in
      let s = All-contains (IsStaleUnder h rs es n) ids id so_far.stale old in
      let same : s.3 ≡ f.0 = same_some s.3 f.0 (sym s.6 ∙ f.1) in
      apart_names es s.0 n s.1 key s.2 v names s.5 at s.4 (s.7 ∙ ap (λ (r : Recorded). r.name) same ∙ sym f.2)

  pub touched_more : AreTouchedUnder h rs es (n + 1) (ids ++ stale_ids_of present rs v.items)
  touched_more = record {
    distinct = distinct_append ids (filter test v.items) so_far.distinct
        (distinct_filter test v.items own.once) apart;
    stale = All-append (IsStaleUnder h rs es (n + 1)) ids (filter test v.items)
        (λ k d below. stale_longer (get_or ids k d) (so_far.stale k d below))
        (λ k d below. stale_here (get_or (filter test v.items) k d) (Contains-get_or (filter test v.items) k d below));
    others = λ k other w id r below e f g. elim (cases_lt k n) [
      | inl less ↦ (elim (so_far.others k other w id r less e f g) [
        | inl has ↦ inl (Contains-append_left ids (filter test v.items) id has)
        | inr fresh ↦ inr fresh
      ])
      | inr more ↦ (let place : k ≡ n = omega arith in
          let both : Some (other, w) ≡ Some (key, v) = sym e ∙ ap (slice_get es) place ∙ at in
          let named : key.name ≡ r.name = ap (λ (p : ProtocolName × Vec ℕ Global). p.0.name) (sym (same_some (other, w) (key, v) both)) ∙ g in
          judged id r f named (is_stale present r) refl)
    ];
  }
    where
      judged : (id : ℕ) (r : Recorded) → record_at rs id ≡ Some r → key.name ≡ r.name → (b : Bool) → is_stale present r ≡ b → Contains (ids ++ filter test v.items) id ⊎ IsFreshNow h r
      judged id r f named true s =
          inl (Contains-append_right ids (filter test v.items) id
          (to_filter test v.items id (ap (is_stale_of present) f ∙ s) (own.all id r f named)))
      judged id r f named false s = inr (present, subst (λ (m : List (List ℕ)). IsPresent h m present) named here, s)

-- ---- the whole list

pub touched_all : (h : Holdings) (rs : Records) (es : Listing) (n : ℕ) (ids sorted : List ℕ) → IsIndex es rs → length es ≤ n → AreTouchedUnder h rs es n ids
    → IsPermutation ids sorted → IsNonDecreasing sorted → AreStaleIds h rs sorted
touched_all h rs es n ids sorted index end touched moved order = record {
  rise = IsStrictlyIncreasing-from_distinct sorted order (IsDistinct-IsPermutation nat_eq nat_eq_equiv.symm ids sorted moved touched.distinct);
  stale = All-permutation (IsStaleAt h rs) ids sorted moved (λ k d below. found (get_or ids k d) (touched.stale k d below));
  others = λ id r e.
      let has : Contains (listed_ids r.name es) id = (index r.name).all id r e refl in
      let at = place id r (lookup (λ k. dotted_eq r.name k.name) es) refl has in
      elim (touched.others at.0 at.1 at.2 id r (let within = slice_get_within es at.0 (at.1, at.2) at.3 in omega (arith, within, end)) at.3 e at.4) [
        | inl has ↦ inl (Contains-permutation ids sorted id moved has)
        | inr fresh ↦ inr fresh
      ];
}
  where
    found : (id : ℕ) → IsStaleUnder h rs es n id → IsStaleAt h rs id
    found id s = (s.3, s.6, s.8)

    place : (id : ℕ) (r : Recorded) (o : Option (Vec ℕ Global)) → lookup (λ (k : ProtocolName). dotted_eq r.name k.name) es ≡ o → Contains (ids_in o) id
        → (k : ℕ) × (key : ProtocolName) × (v : Vec ℕ Global) × (slice_get es k ≡ Some (key, v)) × (key.name ≡ r.name)
    place id r None e has = absurd (omega (arith, has.1))
    place id r (Some v) e has =
        let p = place_from_lookup (λ (k : ProtocolName). dotted_eq r.name k.name) es v e in
        (p.0, p.1, v, p.2, sym ((dotted_eq-Decides r.name p.1.name).0 p.3))
