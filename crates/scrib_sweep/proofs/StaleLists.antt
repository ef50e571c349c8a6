-- The stale conversations of a core, found by their places.
use Rattle.std.proofs.Common.{is_some, ◌≡◌, ◌↔◌, inl, inr, ℕ, ◌+◌, ◌<◌, ◌≤◌, List, [], ◌∷◌, ◌++◌, Contains, IsPermutation, length, Option, Some, None, option_map, slice_get, nat_eq, refl, sym, ap, subst, ◌∙◌, arith}
use Rattle.std.specs.List.{dedup}
use Rattle.std.specs.List.Sorted.{IsSorted}
use Rattle.std.specs.Map.{keys_of}
use Rattle.std.specs.Ordering.{nat_cmp}
use Rattle.std.specs.Borrow.{Bor}
use Rattle.std.proofs.lemmas.Bool.{cases_lt}
use Rattle.std.proofs.lemmas.Bool.Decides.{Decides-eqb}
use Rattle.std.proofs.lemmas.List.Elements.{Contains-append_left, Contains-push, Contains-push_cases}
use Rattle.std.proofs.lemmas.List.Kept.{Contains-dedup_nat, Contains-from_dedup}
use Rattle.std.proofs.lemmas.List.Sorted.{Contains-permutation, IsPermutation-sym}
use Rattle.std.proofs.lemmas.Map.Entries.{place_from_lookup}
use Rattle.std.proofs.lemmas.Map.Keys.{IsStrictlyIncreasing-dedup}
use Rattle.std.proofs.lemmas.List.{length-map}
use Rattle.std.proofs.lemmas.Option.{slice_get_within, slice_get-map}
use Rattle.std.specs.Prelude.{Bool, IsTrue}
use Rattle.std.proofs.lemmas.Bool.{false≢true}
use Rattle.scrib_types.specs.declared.event.Event.{Event}
use Rattle.scrib_types.specs.declared.protocol.Protocol.{Protocol}
use Rattle.scrib_core.specs.World.{Conversation, conversation}
use Rattle.scrib_core.specs.Marks.{IsStale}
use Rattle.scrib_core.specs.Answers.{State}
use Rattle.scrib_core.specs.FreshRecords.{FindsFreshRecord}
use Rattle.scrib_core.specs.Held.{Held, mark_at, state_of, IsViewed}
use Rattle.scrib_core.proofs.ConversationLemmas.{record_seen}
use Rattle.scrib_record.specs.Stale.{Recorded}
use Rattle.scrib_sweep.specs.Sweeps.{AreStale}
use Rattle.scrib_sweep.proofs.TurnEffects.{OnlyOpenMarked, only_open, stale_open, not_both}

-- ---- whether a conversation is stale

-- a record that is not stale
pub fresh_found : (c : Held) (id : ℕ) (r : Bor Recorded) → FindsFreshRecord c id (Some r) → IsStale ((state_of c).marks id) → ⊥
fresh_found c id r found stale =
    let fresh = ap (mark_at c.library) found.there ∙ found.fresh in
    not_both ((state_of c).marks id) fresh stale

-- an open conversation without a record that is not stale
pub stale_found : (c : Held) (id : ℕ) (v : Conversation) → FindsFreshRecord c id None → conversation (state_of c).world id ≡ Some v → IsStale ((state_of c).marks id)
stale_found c id v found e =
    let seen = record_seen c.library c.records id v e in
    subst IsStale (sym (ap (mark_at c.library) seen.1)) (found seen.0 seen.1)

-- a conversation without a record that is not stale is stale exactly where it is open
pub stale_test : (c : Held) (id : ℕ) (found : Option (Bor Recorded)) (o : Option (Option (Bor Protocol) × Bor (List Event))) (b : Bool)
    → found ≡ None → FindsFreshRecord c id found → IsViewed (state_of c).world id o → b ≡ is_some o → IsTrue b ↔ IsStale ((state_of c).marks id)
stale_test c id found o b none finds viewed same =
    subst (λ (x : Bool). IsTrue x ↔ IsStale ((state_of c).marks id)) (sym same) (by o viewed (subst (FindsFreshRecord c id) none finds))
  where
    by : (o : Option (Option (Bor Protocol) × Bor (List Event))) → IsViewed (state_of c).world id o → FindsFreshRecord c id None → IsTrue (is_some o) ↔ IsStale ((state_of c).marks id)
    by None e finds = (λ t. absurd (false≢true t), λ stale. absurd (not_both ((state_of c).marks id) (only_open c id e) stale))
    by (Some v) there finds = (λ t. stale_found c id there.0 finds there.1, λ stale. refl)

-- ---- the list

-- the keys of the open conversations, by their places
abbrev pub keys : State → List ℕ
keys s = keys_of s.world.conversations

-- exactly the stale ones of the first conversations are listed
pub record AreStaleBelow (s : State) (n : ℕ) (ids : List ℕ) : Type 0 where
  pub stale : (id : ℕ) → Contains ids id → IsStale (s.marks id)
  pub each : (k id : ℕ) → k < n → slice_get (keys s) k ≡ Some id → IsStale (s.marks id) → Contains ids id

pub stale_none : (s : State) → AreStaleBelow s 0 []
stale_none s = record {
  stale = λ id has. absurd (omega (arith, has.1));
  each = λ k id below e stale. absurd (omega (arith, below));
}

same_some : {X : Type 0} (x y : X) → Some x ≡ Some y → x ≡ y
same_some x y e = cc

module _ (s : State) (n : ℕ) (ids : List ℕ) (id : ℕ) (so_far : AreStaleBelow s n ids) (at : slice_get (keys s) n ≡ Some id) where
  -- the next conversation is stale, and added to the list
  pub stale_more : IsStale (s.marks id) → AreStaleBelow s (n + 1) (ids ++ id ∷ [])
  stale_more stale = record {
    stale = λ j has. elim (Contains-push_cases ids id j has) [
      | inl old ↦ so_far.stale j old
      | inr same ↦ subst (λ (k : ℕ). IsStale (s.marks k)) same stale
    ];
    each = λ k j below e is. elim (cases_lt k n) [
      | inl before ↦ Contains-append_left ids (id ∷ []) j (so_far.each k j before e is)
      | inr same ↦ subst (Contains (ids ++ id ∷ [])) (one k j (omega arith) e) (Contains-push ids id)
    ];
  }
    where
      one : (k j : ℕ) → k ≡ n → slice_get (keys s) k ≡ Some j → id ≡ j
      one k j same e = same_some id j (sym at ∙ ap (slice_get (keys s)) (sym same) ∙ e)

  -- the next conversation is not stale
  pub stale_past : (IsStale (s.marks id) → ⊥) → AreStaleBelow s (n + 1) ids
  stale_past fresh = record {
    stale = so_far.stale;
    each = λ k j below e is. elim (cases_lt k n) [
      | inl before ↦ so_far.each k j before e is
      | inr same ↦ (let one : k ≡ n = omega arith in absurd (fresh (subst (λ (i : ℕ). IsStale (s.marks i)) (same_some j id (sym e ∙ ap (slice_get (keys s)) one ∙ at)) is)))
    ];
  }

-- there is no conversation at this place
pub none_past : (s : State) (n : ℕ) (ids : List ℕ) → AreStaleBelow s n ids → slice_get (keys s) n ≡ None → AreStaleBelow s (n + 1) ids
none_past s n ids so_far none = record {
  stale = so_far.stale;
  each = λ k j below e is. elim (cases_lt k n) [
    | inl before ↦ so_far.each k j before e is
    | inr same ↦ (let one : k ≡ n = omega arith in absurd (none_some j (sym none ∙ ap (slice_get (keys s)) (sym one) ∙ e)))
  ];
}
  where
    none_some : (j : ℕ) → None ≡ Some j → ⊥
    none_some j e = cc

-- a stale conversation has a place
stale_key : (s : State) → OnlyOpenMarked s → (id : ℕ) → IsStale (s.marks id) → (k : ℕ) × (slice_get (keys s) k ≡ Some id)
stale_key s only id stale =
    let open_one = stale_open s only id stale in
    let at = place_from_lookup (nat_eq id) s.world.conversations open_one.0 open_one.1 in
    let same : id ≡ at.1 = (Decides-eqb id at.1).0 at.3 in
    (at.0, slice_get-map (λ (e : ℕ × Conversation). e.0) s.world.conversations at.0 ∙ ap (option_map (λ (e : ℕ × Conversation). e.0)) at.2 ∙ ap (λ (i : ℕ). Some i) (sym same))

-- the whole list, sorted, each id once
pub stale_all : (s : State) (n : ℕ) (ids sorted : List ℕ) → OnlyOpenMarked s → AreStaleBelow s n ids → length s.world.conversations ≤ n → IsPermutation ids sorted → IsSorted nat_cmp sorted
    → AreStale s (dedup nat_eq sorted)
stale_all s n ids sorted only below end moved order = record {
  rise = IsStrictlyIncreasing-dedup sorted order;
  exact = λ id. (
    λ has. below.stale id (Contains-permutation sorted ids id (IsPermutation-sym ids sorted moved) (Contains-from_dedup nat_eq sorted id has)),
    λ stale.
        let at = stale_key s only id stale in
        let here : at.0 < n = before at.0 id at.1 in
        Contains-dedup_nat sorted id (Contains-permutation ids sorted id moved (below.each at.0 id here at.1 stale)),
  );
}
  where
    before : (k id : ℕ) → slice_get (keys s) k ≡ Some id → k < n
    before k id e = omega (arith, slice_get_within (keys s) k id e, length-map s.world.conversations (λ (x : ℕ × Conversation). x.0), end)
