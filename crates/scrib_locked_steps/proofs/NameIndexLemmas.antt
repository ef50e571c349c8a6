-- The index of a shard: its lists after an id is added, and its agreement with the records.
use Rattle.std.proofs.Common.{◌≡◌, ◌⊎◌, inl, inr, ℕ, suc, ◌++◌, Bool, true, false, cond, List, [], ◌∷◌, Some, None, get_or, nat_eq, refl, sym, ap, subst, ◌∙◌, true≢false, arith, Contains, IsPermutation}
use Rattle.std.specs.Prelude.{IsSome, Vec}
use Rattle.std.specs.declared.alloc.Global.{Global}
use Rattle.std.specs.List.{list_any, IsDistinct}
use Rattle.std.specs.Map.{lookup, set_value}
use Rattle.std.specs.Cmp.{nat_eq_equiv}
use Rattle.std.proofs.lemmas.Bool.Decides.{Decides-eqb}
use Rattle.std.proofs.lemmas.List.{append-nil}
use Rattle.std.proofs.lemmas.List.Elements.{Contains-append_left, Contains-append_right, Contains-append_cases, Contains-push, Contains-push_cases}
use Rattle.std.proofs.lemmas.List.Sorted.{Contains-permutation, IsPermutation-sym}
use Rattle.std.proofs.lemmas.Map.{lookup-set_value}
use Rattle.std.proofs.lemmas.Map.Keys.{IsDistinct-push, IsDistinct-IsPermutation}
use Rattle.std.proofs.lemmas.Map.Made.{AllPairs-from_IsDistinct}
use Rattle.std.proofs.lemmas.Map.Views.{Contains-from_any}
use Rattle.scrib_static_checks.specs.Names.{dotted_eq}
use Rattle.scrib_static_checks.proofs.NameLemmas.{dotted_eq-Decides}
use Rattle.scrib_record.specs.Stale.{Recorded}
use Rattle.scrib_core.specs.World.{IsTakenOut}
use Rattle.scrib_core.specs.Held.{Records, record_at}
use Rattle.scrib_locked_steps.specs.declared.index.ProtocolName.{ProtocolName}
use Rattle.scrib_locked_steps.specs.Indexing.{Listing, listed_ids, ids_in, only_under, AreIdsOf, IsIndex, IsUnlisted}

same_some : {X : Type 0} (x y : X) → Some x ≡ Some y → x ≡ y
same_some x y e = cc

-- ---- the lists after one is written

-- the list of the key is this one now, and the others are unchanged
abbrev pub IsWritten : Listing → Listing → List (List ℕ) → Vec ℕ Global → Type 0
IsWritten old new key w = (q : ProtocolName) → lookup (λ k. dotted_eq q.name k.name) new ≡ cond (dotted_eq key q.name) (Some w) (lookup (λ k. dotted_eq q.name k.name) old)

same_name : (a b : List (List ℕ)) → dotted_eq a b ≡ true → a ≡ b
same_name a b t = (dotted_eq-Decides a b).0 t

eq_of_same : (a b : List (List ℕ)) → a ≡ b → dotted_eq a b ≡ true
eq_of_same a b e = (dotted_eq-Decides a b).1 e

other_name : (a b : List (List ℕ)) → dotted_eq a b ≡ false → dotted_eq b a ≡ false
other_name a b f = by (dotted_eq b a) refl
  where
    by : (t : Bool) → dotted_eq b a ≡ t → t ≡ false
    by false e = refl
    by true e = absurd (true≢false (sym (eq_of_same a b (sym (same_name b a e))) ∙ f))

pub listed_kept : (old new : Listing) (key : List (List ℕ)) (w : Vec ℕ Global) → IsWritten old new key w → w.items ≡ listed_ids key old → (n : List (List ℕ)) → listed_ids n new ≡ listed_ids n old
listed_kept old new key w written is n = by (dotted_eq key n) refl
  where
    at : (b : Bool) → dotted_eq key n ≡ b → listed_ids n new ≡ ids_in (cond b (Some w) (lookup (λ k. dotted_eq n k.name) old))
    at b e = ap ids_in (written (record { name = n })) ∙ ap (λ (t : Bool). ids_in (cond t (Some w) (lookup (λ k. dotted_eq n k.name) old))) e

    by : (b : Bool) → dotted_eq key n ≡ b → listed_ids n new ≡ listed_ids n old
    by true e = at true e ∙ is ∙ ap (λ (m : List (List ℕ)). listed_ids m old) (same_name key n e)
    by false e = at false e

pub listed_more : (old new : Listing) (key name : List (List ℕ)) (id : ℕ) (w : Vec ℕ Global) → key ≡ name → IsWritten old new key w → w.items ≡ listed_ids key old ++ id ∷ []
    → (n : List (List ℕ)) → listed_ids n new ≡ listed_ids n old ++ only_under name n id
listed_more old new key name id w same written is n = by (dotted_eq key n) refl
  where
    at : (b : Bool) → dotted_eq key n ≡ b → listed_ids n new ≡ ids_in (cond b (Some w) (lookup (λ k. dotted_eq n k.name) old))
    at b e = ap ids_in (written (record { name = n })) ∙ ap (λ (t : Bool). ids_in (cond t (Some w) (lookup (λ k. dotted_eq n k.name) old))) e

    by : (b : Bool) → dotted_eq key n ≡ b → listed_ids n new ≡ listed_ids n old ++ only_under name n id
    by true e =
        let here : dotted_eq n name ≡ true = eq_of_same n name (sym (same_name key n e) ∙ same) in
        at true e ∙ is
        ∙ ap (λ (m : List (List ℕ)). listed_ids m old ++ id ∷ []) (same_name key n e)
        ∙ ap (λ (t : Bool). listed_ids n old ++ cond t (id ∷ []) []) (sym here)
    by false e =
        let there : dotted_eq n name ≡ false = subst (λ (m : List (List ℕ)). dotted_eq n m ≡ false) same (other_name key n e) in
        at false e ∙ sym (append-nil (listed_ids n old)) ∙ ap (λ (t : Bool). listed_ids n old ++ cond t (id ∷ []) []) (sym there)

-- the key is dropped, and the others are unchanged
abbrev pub IsDropped : Listing → Listing → List (List ℕ) → Type 0
IsDropped old new key = (q : ProtocolName) → lookup (λ k. dotted_eq q.name k.name) new ≡ cond (dotted_eq key q.name) None (lookup (λ k. dotted_eq q.name k.name) old)

listed_some : (es : Listing) (key : List (List ℕ)) (v : Vec ℕ Global) → lookup (λ k. dotted_eq key k.name) es ≡ Some v → listed_ids key es ≡ v.items
listed_some es key v there = ap ids_in there

-- there is no list of the name
pub unlisted_none : (es fs : Listing) (key : List (List ℕ)) (id : ℕ) → lookup (λ k. dotted_eq key k.name) es ≡ None → fs ≡ es → IsUnlisted key id es fs
unlisted_none es fs key id none same = record {
  taken = λ has. absurd (let in_none : Contains [] id = subst (λ (ids : List ℕ). Contains ids id) (ap ids_in none) has in omega (arith, in_none.1));
  others = λ n apart. ap (listed_ids n) same;
}

module _ (es ms : Listing) (key : List (List ℕ)) (id : ℕ) (v w : Vec ℕ Global) (there : lookup (λ k. dotted_eq key k.name) es ≡ Some v) (written : IsWritten es ms key w)
    (moved : Contains v.items id → IsPermutation v.items (id ∷ w.items)) where
  own_written : listed_ids key ms ≡ w.items
  own_written = ap ids_in (written (record { name = key })) ∙ ap (λ (b : Bool). ids_in (cond b (Some w) (lookup (λ k. dotted_eq key k.name) es))) (eq_of_same key key refl)

  other_written : (n : List (List ℕ)) → dotted_eq key n ≡ false → listed_ids n ms ≡ listed_ids n es
  other_written n apart = ap ids_in (written (record { name = n })) ∙ ap (λ (b : Bool). ids_in (cond b (Some w) (lookup (λ k. dotted_eq n k.name) es))) apart

  -- the list without the id is written
  pub unlisted_written : IsUnlisted key id es ms
  unlisted_written = record {
    taken = λ has.
        subst (λ (ids : List ℕ). IsPermutation ids (id ∷ listed_ids key ms)) (sym (listed_some es key v there))
        (subst (λ (ids : List ℕ). IsPermutation v.items (id ∷ ids)) (sym own_written) (moved (subst (λ (ids : List ℕ). Contains ids id) (listed_some es key v there) has)));
    others = other_written;
  }

  -- and dropped, since it is empty
  pub unlisted_dropped : (fs : Listing) → w.items ≡ [] → IsDropped ms fs key → IsUnlisted key id es fs
  unlisted_dropped fs empty dropped = record {
    taken = λ has.
        subst (λ (ids : List ℕ). IsPermutation (listed_ids key es) (id ∷ ids)) (own_written ∙ empty ∙ sym own_dropped) (unlisted_written.taken has);
    others = λ n apart. ap ids_in (dropped (record { name = n })) ∙ ap (λ (b : Bool). ids_in (cond b None (lookup (λ k. dotted_eq n k.name) ms))) apart ∙ other_written n apart;
  }
    where
      own_dropped : listed_ids key fs ≡ []
      own_dropped = ap ids_in (dropped (record { name = key })) ∙ ap (λ (b : Bool). ids_in (cond b None (lookup (λ k. dotted_eq key k.name) ms))) (eq_of_same key key refl)

-- ---- lists of ids

-- an element of a list with one more at the front
pub front_cases : (x : ℕ) (xs : List ℕ) (y : ℕ) → Contains (x ∷ xs) y → (x ≡ y) ⊎ Contains xs y
front_cases x xs y has = elim (Contains-append_cases (x ∷ []) xs y has) [
  | inl first ↦ inl (let at : first.0 ≡ 0 = omega (arith, first.1) in ap (λ (i : ℕ). get_or (x ∷ []) i y) (sym at) ∙ first.2)
  | inr later ↦ inr later
]

pub tail_distinct : (x : ℕ) (xs : List ℕ) → IsDistinct nat_eq (x ∷ xs) → IsDistinct nat_eq xs
unfolding IsDistinct
tail_distinct x xs d = d.1

-- the first of different elements isn't behind itself
pub first_apart : (x : ℕ) (xs : List ℕ) → IsDistinct nat_eq (x ∷ xs) → Contains xs x → ⊥
first_apart x xs d has = AllPairs-from_IsDistinct Decides-eqb (x ∷ xs) d 0 (suc has.0) x (omega arith) (omega (arith, has.1)) (sym has.2)

nothing : (id : ℕ) → Contains [] id → ⊥
nothing id has = omega (arith, has.1)

-- an id that isn't among those of open conversations
not_any : (ids : List ℕ) (id : ℕ) → (Contains ids id → ⊥) → list_any (nat_eq id) ids ≡ false
not_any ids id absent = by (list_any (nat_eq id) ids) refl
  where
    by : (b : Bool) → list_any (nat_eq id) ids ≡ b → b ≡ false
    by false found = refl
    by true found = absurd (absent (Contains-from_any (λ a b. (Decides-eqb a b).0) id ids found))

-- ---- the records after a step

none_some : (r : Recorded) → None ≡ Some r → ⊥
none_some r e = cc

same_number : (i : ℕ) → nat_eq i i ≡ true
same_number i = (Decides-eqb i i).1 refl

pub other_number : (i j : ℕ) → (i ≡ j → ⊥) → nat_eq i j ≡ false
other_number i j apart = by (nat_eq i j) refl
  where
    by : (b : Bool) → nat_eq i j ≡ b → b ≡ false
    by false e = refl
    by true e = absurd (apart ((Decides-eqb i j).0 e))

push_here : (rs : Records) (id : ℕ) (s : Recorded) → record_at rs id ≡ None → record_at (rs ++ (id, s) ∷ []) id ≡ Some s
push_here [] id s none = rw (same_number id) refl
push_here ((k, x) ∷ rs) id s none = by (nat_eq id k) none (push_here rs id s)
  where
    by : (b : Bool) → cond b (Some x) (record_at rs id) ≡ None → (record_at rs id ≡ None → record_at (rs ++ (id, s) ∷ []) id ≡ Some s) → cond b (Some x) (record_at (rs ++ (id, s) ∷ []) id) ≡ Some s
    by true e rest = absurd (none_some x (sym e))
    by false e rest = rest e

push_other : (rs : Records) (id : ℕ) (s : Recorded) (i : ℕ) → (i ≡ id → ⊥) → record_at (rs ++ (id, s) ∷ []) i ≡ record_at rs i
push_other [] id s i apart = rw (other_number i id apart) refl
push_other ((k, x) ∷ rs) id s i apart = ap (cond (nat_eq i k) (Some x)) (push_other rs id s i apart)

-- ---- the ids of one name after a step

-- another id's record
other_id : (rs : Records) (id i : ℕ) (r : Recorded) → record_at rs id ≡ None → record_at rs i ≡ Some r → i ≡ id → ⊥
other_id rs id i r none there same = none_some r (sym none ∙ ap (record_at rs) (sym same) ∙ there)

module _ (name : List (List ℕ)) (rs : Records) (ids : List ℕ) (are : AreIdsOf name rs ids) (id : ℕ) where
  -- a record of the name is added
  push_same : (s : Recorded) → record_at rs id ≡ None → name ≡ s.name → AreIdsOf name (rs ++ (id, s) ∷ []) (ids ++ id ∷ [])
  push_same s none named = record {
    once = IsDistinct-push nat_eq_equiv ids id are.once (not_any ids id (λ has. let p = are.only id has in other_id rs id id p.0 none p.1 refl));
    only = λ i has. elim (Contains-push_cases ids id i has) [
      | inl old ↦ (let p = are.only i old in (p.0, push_other rs id s i (other_id rs id i p.0 none p.1) ∙ p.1, p.2))
      | inr here ↦ (s, ap (record_at (rs ++ (id, s) ∷ [])) (sym here) ∙ push_here rs id s none, named)
    ];
    all = λ i r there same. by i r there same (nat_eq i id) refl;
  }
    where
      by : (i : ℕ) (r : Recorded) → record_at (rs ++ (id, s) ∷ []) i ≡ Some r → name ≡ r.name → (b : Bool) → nat_eq i id ≡ b → Contains (ids ++ id ∷ []) i
      by i r there same true e = subst (Contains (ids ++ id ∷ [])) (sym ((Decides-eqb i id).0 e)) (Contains-push ids id)
      by i r there same false e =
          Contains-append_left ids (id ∷ []) i (are.all i r (sym (push_other rs id s i (λ eq. true≢false (sym ((Decides-eqb i id).1 eq) ∙ e))) ∙ there) same)

  -- a record of another name is added
  push_differs : (s : Recorded) → record_at rs id ≡ None → (name ≡ s.name → ⊥) → AreIdsOf name (rs ++ (id, s) ∷ []) ids
  push_differs s none apart = record {
    once = are.once;
    only = λ i has. let p = are.only i has in (p.0, push_other rs id s i (other_id rs id i p.0 none p.1) ∙ p.1, p.2);
    all = λ i r there same. by i r there same (nat_eq i id) refl;
  }
    where
      by : (i : ℕ) (r : Recorded) → record_at (rs ++ (id, s) ∷ []) i ≡ Some r → name ≡ r.name → (b : Bool) → nat_eq i id ≡ b → Contains ids i
      by i r there same true e =
          let is : s ≡ r = same_some s r (sym (push_here rs id s none) ∙ ap (record_at (rs ++ (id, s) ∷ [])) (sym ((Decides-eqb i id).0 e)) ∙ there) in
          absurd (apart (same ∙ ap (λ (q : Recorded). q.name) (sym is)))
      by i r there same false e = are.all i r (sym (push_other rs id s i (λ eq. true≢false (sym ((Decides-eqb i id).1 eq) ∙ e))) ∙ there) same

  -- a record is written, with its own name
  set_keeps : (r s : Recorded) → record_at rs id ≡ Some r → s.name ≡ r.name → AreIdsOf name (set_value (nat_eq id) rs s) ids
  set_keeps r s there named = record {
    once = are.once;
    only = λ i has. let p = are.only i has in to_new i p.0 p.1 p.2 (nat_eq id i) refl;
    all = λ i q here same. to_old i q here same (nat_eq id i) refl;
  }
    where
      now : (i : ℕ) → record_at (set_value (nat_eq id) rs s) i ≡ cond (nat_eq id i) (Some s) (record_at rs i)
      now i = lookup-set_value nat_eq_equiv (nat_eq id) (λ a b e. by_key a b e) i s rs (subst IsSome (sym there) refl)
        where
          by_key : (a b : ℕ) → nat_eq id a ≡ true → nat_eq id b ≡ nat_eq a b
          by_key a b e = ap (λ (n : ℕ). nat_eq n b) ((Decides-eqb id a).0 e)

      to_new : (i : ℕ) (q : Recorded) → record_at rs i ≡ Some q → name ≡ q.name → (b : Bool) → nat_eq id i ≡ b → (t : Recorded) × (record_at (set_value (nat_eq id) rs s) i ≡ Some t) × (name ≡ t.name)
      to_new i q e same true d =
          let is : r ≡ q = same_some r q (sym there ∙ ap (record_at rs) ((Decides-eqb id i).0 d) ∙ e) in
          (s, now i ∙ ap (λ (t : Bool). cond t (Some s) (record_at rs i)) d, same ∙ ap (λ (t : Recorded). t.name) (sym is) ∙ sym named)
      to_new i q e same false d = (q, now i ∙ ap (λ (t : Bool). cond t (Some s) (record_at rs i)) d ∙ e, same)

      to_old : (i : ℕ) (q : Recorded) → record_at (set_value (nat_eq id) rs s) i ≡ Some q → name ≡ q.name → (b : Bool) → nat_eq id i ≡ b → Contains ids i
      to_old i q e same true d =
          let is : s ≡ q = same_some s q (sym (ap (λ (t : Bool). cond t (Some s) (record_at rs i)) d) ∙ sym (now i) ∙ e) in
          are.all i r (ap (record_at rs) (sym ((Decides-eqb id i).0 d)) ∙ there) (same ∙ ap (λ (t : Recorded). t.name) (sym is) ∙ named)
      to_old i q e same false d = are.all i q (sym (ap (λ (t : Bool). cond t (Some s) (record_at rs i)) d) ∙ sym (now i) ∙ e) same

  module _ (r : Recorded) (new : Records) (t : IsTakenOut id rs r new) where
    -- a record that is there afterwards
    kept_id : (i : ℕ) (q : Recorded) → record_at new i ≡ Some q → i ≡ id → ⊥
    kept_id i q e same = other_id new id i q t.gone e same

    kept_there : (i : ℕ) (q : Recorded) → record_at new i ≡ Some q → record_at rs i ≡ Some q
    kept_there i q e = sym (t.others i (kept_id i q e)) ∙ e

    -- the record of the name is taken out, and its id
    taken_same : (left : List ℕ) → IsPermutation ids (id ∷ left) → AreIdsOf name new left
    taken_same left moved = record {
      once = tail_distinct id left distinct;
      only = λ i has.
          let p = are.only i (Contains-permutation (id ∷ left) ids i (IsPermutation-sym ids (id ∷ left) moved) (Contains-append_right (id ∷ []) left i has)) in
          (p.0, t.others i (λ same. first_apart id left distinct (subst (Contains left) same has)) ∙ p.1, p.2);
      all = λ i q there same. elim (front_cases id left i (Contains-permutation ids (id ∷ left) i moved (are.all i q (kept_there i q there) same))) [
        | inl first ↦ absurd (kept_id i q there (sym first))
        | inr later ↦ later
      ];
    }
      where
        distinct : IsDistinct nat_eq (id ∷ left)
        distinct = IsDistinct-IsPermutation nat_eq nat_eq_equiv.symm ids (id ∷ left) moved are.once

    -- a record of another name is taken out
    taken_differs : (name ≡ r.name → ⊥) → AreIdsOf name new ids
    taken_differs apart = record {
      once = are.once;
      only = λ i has. let p = are.only i has in (p.0, t.others i (differs i p.0 p.1 p.2) ∙ p.1, p.2);
      all = λ i q there same. are.all i q (kept_there i q there) same;
    }
      where
        differs : (i : ℕ) (q : Recorded) → record_at rs i ≡ Some q → name ≡ q.name → i ≡ id → ⊥
        differs i q there same at =
            let is : q ≡ r = same_some q r (sym there ∙ ap (record_at rs) at ∙ t.there) in
            apart (same ∙ ap (λ (x : Recorded). x.name) is)

-- ---- the index after a step

pub index_none : IsIndex [] []
unfolding IsDistinct
index_none name = record { once = tt; only = λ id has. absurd (nothing id has); all = λ id r there. absurd (none_some r there) }

pub index_push : (es fs : Listing) (rs : Records) (id : ℕ) (r : Recorded) → record_at rs id ≡ None → ((n : List (List ℕ)) → listed_ids n fs ≡ listed_ids n es ++ only_under r.name n id) → IsIndex es rs
    → IsIndex fs (rs ++ (id, r) ∷ [])
index_push es fs rs id r none more index n = by (dotted_eq n r.name) refl
  where
    after : (b : Bool) → dotted_eq n r.name ≡ b → listed_ids n es ++ cond b (id ∷ []) [] ≡ listed_ids n fs
    after b e = sym (more n ∙ ap (λ (t : Bool). listed_ids n es ++ cond t (id ∷ []) []) e)

    by : (b : Bool) → dotted_eq n r.name ≡ b → AreIdsOf n (rs ++ (id, r) ∷ []) (listed_ids n fs)
    by true e = subst (AreIdsOf n (rs ++ (id, r) ∷ [])) (after true e) (push_same n rs (listed_ids n es) (index n) id r none (same_name n r.name e))
    by false e =
        subst (AreIdsOf n (rs ++ (id, r) ∷ [])) (sym (append-nil (listed_ids n es)) ∙ after false e)
        (push_differs n rs (listed_ids n es) (index n) id r none (λ same. true≢false (sym (eq_of_same n r.name same) ∙ e)))

pub index_set : (es : Listing) (rs : Records) (id : ℕ) (r s : Recorded) → record_at rs id ≡ Some r → s.name ≡ r.name → IsIndex es rs → IsIndex es (set_value (nat_eq id) rs s)
index_set es rs id r s there named index n = set_keeps n rs (listed_ids n es) (index n) id r s there named

pub index_kept : (es fs : Listing) (rs : Records) → ((n : List (List ℕ)) → listed_ids n fs ≡ listed_ids n es) → IsIndex es rs → IsIndex fs rs
index_kept es fs rs same index n = subst (AreIdsOf n rs) (sym (same n)) (index n)

pub index_taken : (es fs : Listing) (rs new : Records) (id : ℕ) (r : Recorded) → IsTakenOut id rs r new → IsUnlisted r.name id es fs → IsIndex es rs → IsIndex fs new
index_taken es fs rs new id r t u index n = by (dotted_eq r.name n) refl
  where
    here : IsPermutation (listed_ids r.name es) (id ∷ listed_ids r.name fs)
    here = u.taken ((index r.name).all id r t.there refl)

    by : (b : Bool) → dotted_eq r.name n ≡ b → AreIdsOf n new (listed_ids n fs)
    by true e = subst (λ (m : List (List ℕ)). AreIdsOf m new (listed_ids m fs)) (same_name r.name n e) (taken_same r.name rs (listed_ids r.name es) (index r.name) id r new t (listed_ids r.name fs) here)
    by false e =
        subst (AreIdsOf n new) (sym (u.others n e))
        (taken_differs n rs (listed_ids n es) (index n) id r new t (λ same. true≢false (sym (eq_of_same r.name n (sym same)) ∙ e)))
