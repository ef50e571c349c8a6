-- The tallies of a shard: the cases of one more tally and one more pass, and the first mismatch.
use Rattle.std.proofs.Common.{◌≡◌, ◌≢◌, ◌<◌, ◌+◌, ◌%◌, ◌++◌, ◌∷◌, ◌∙◌, ◌⊎◌, inl, inr, [], ℕ, zero, suc, List, Bool, cond, Option, Some, None, length, slice_get, get_or, set, take, drop, nat_eq, refl, sym, ap, subst, arith, eq-eqb, ne_eqb, true≢false, length-append}
use Rattle.std.proofs.lemmas.Bool.{cases_lt}
use Rattle.std.proofs.lemmas.List.{append-nil, length-set, take_more}
use Rattle.std.proofs.lemmas.List.Concat.{flat_map-append}
use Rattle.std.proofs.Math.Seq.{take-append_seam}
use Rattle.std.proofs.lemmas.Option.{none-some, same_Some, some_pair_parts, slice_get_within}
use Rattle.scrib_locked_steps.specs.declared.pass.Receipt.{Receipt}
use Rattle.scrib_record.specs.Stale.{Recorded}
use Rattle.scrib_core.specs.Held.{Records}
use Rattle.scrib_locked_steps.specs.Passes.{PassHeld}
use Rattle.scrib_locked_steps.specs.Receipts.{entry_at}
use Rattle.scrib_settlement.specs.Mismatches.{receipts_of, events_at, PlaceAgreesIn, PlaceAgreesInShard, IsLeast, earlier_of}
use Rattle.scrib_settlement.specs.Tallies.{IsTallyOf, AreTallies, PlaceAgreesBelow, IsFirstDifference, placed_in}
use Rattle.scrib_settlement.specs.declared.mismatch_place.MismatchPlace.{MismatchPlace}
use Rattle.scrib_settlement.specs.declared.tally.Tally.{Tally}
use Rattle.scrib_settlement.proofs.LeastPlaceLemmas.{IsFirst, least_both, least_same, least_one}

-- ---- lists by index

slice_get_push : {X : Type 0} (xs : List X) (x : X) (k : ℕ) (u : X) → slice_get (xs ++ x ∷ []) k ≡ Some u → (slice_get xs k ≡ Some u) ⊎ ((k ≡ length xs) × (x ≡ u))
slice_get_push [] x zero u h = inr (refl, same_Some x u h)
slice_get_push [] x (suc k) u h = absurd (none-some u h)
slice_get_push (y ∷ ys) x zero u h = inl h
slice_get_push (y ∷ ys) x (suc k) u h = elim (slice_get_push ys x k u h) [ inl before ↦ inl before | inr last ↦ inr (omega (arith, last.0), last.1) ]

slice_get_set : {X : Type 0} (xs : List X) (j : ℕ) (x : X) (k : ℕ) (u : X) → slice_get (set xs j x) k ≡ Some u → ((k ≡ j) × (x ≡ u)) ⊎ ((k ≡ j → ⊥) × (slice_get xs k ≡ Some u))
slice_get_set [] j x k u h = absurd (none-some u h)
slice_get_set (y ∷ ys) zero x zero u h = inl (refl, same_Some x u h)
slice_get_set (y ∷ ys) zero x (suc k) u h = inr (λ e. absurd (omega (arith, e)), h)
slice_get_set (y ∷ ys) (suc j) x zero u h = inr (λ e. absurd (omega (arith, e)), h)
slice_get_set (y ∷ ys) (suc j) x (suc k) u h = elim (slice_get_set ys j x k u h) [
  | inl at ↦ inl (omega (arith, at.0), at.1)
  | inr other ↦ inr (λ e. other.0 (omega (arith, e)), other.1)
]

pub take_step : {X : Type 0} (xs : List X) (i : ℕ) (x : X) → i < length xs → x ≡ get_or xs i x → take (i + 1) xs ≡ take i xs ++ x ∷ []
take_step {X} xs i x within is = take_more xs i x within ∙ ap (λ (y : X). take i xs ++ y ∷ []) (sym is)

-- the contents of a vector after it was lent as a slice
pub lent_back : {X : Type 0} (n : ℕ) (xs ys : List X) → length xs ≡ n → take n (xs ++ drop (length xs) ys) ≡ xs
lent_back n xs ys size = rw (← size) (take-append_seam xs (drop (length xs) ys))

-- ---- receipts of one more pass

receipts_push : (id : ℕ) (ps : List PassHeld) (p : PassHeld) → receipts_of id (ps ++ p ∷ []) ≡ receipts_of id ps ++ cond (nat_eq p.conversation id) p.receipts []
receipts_push id ps p =
    flat_map-append (λ (q : PassHeld). cond (nat_eq q.conversation id) q.receipts []) ps (p ∷ [])
    ∙ ap (λ (rs : List Receipt). receipts_of id ps ++ rs) (append-nil (cond (nat_eq p.conversation id) p.receipts []))

receipts_same : (id : ℕ) (ps : List PassHeld) (p : PassHeld) → p.conversation ≡ id → receipts_of id (ps ++ p ∷ []) ≡ receipts_of id ps ++ p.receipts
receipts_same id ps p e = receipts_push id ps p ∙ ap (λ (b : Bool). receipts_of id ps ++ cond b p.receipts []) (eq-eqb p.conversation id e)

receipts_other : (id : ℕ) (ps : List PassHeld) (p : PassHeld) → (p.conversation ≡ id → ⊥) → receipts_of id (ps ++ p ∷ []) ≡ receipts_of id ps
receipts_other id ps p differs = receipts_push id ps p ∙ ap (λ (b : Bool). receipts_of id ps ++ cond b p.receipts []) (ne_eqb p.conversation id differs) ∙ append-nil (receipts_of id ps)

-- ---- tallies

-- tallies without receipts, for the shard's first conversations
pub record AreNew (n : ℕ) (es : Records) (ts : List Tally) : Type 0 where
  pub size : length ts ≡ n
  pub each : (k id : ℕ) (c : Recorded) (t : Tally) → slice_get es k ≡ Some (id, c) → slice_get ts k ≡ Some t → IsTallyOf c.log [] t.due.items t.wrong

pub new_push : (n : ℕ) (es : Records) (ts : List Tally) (t : Tally) (id : ℕ) (c : Recorded)
    → AreNew n es ts → slice_get es n ≡ Some (id, c) → IsTallyOf c.log [] t.due.items t.wrong → AreNew (n + 1) es (ts ++ t ∷ [])
new_push n es ts t id c new at counts = record {
  size = length-append ts (t ∷ []) ∙ ap (λ (k : ℕ). k + 1) new.size;
  each = each;
}
  where
    each : (k i : ℕ) (d : Recorded) (u : Tally) → slice_get es k ≡ Some (i, d) → slice_get (ts ++ t ∷ []) k ≡ Some u → IsTallyOf d.log [] u.due.items u.wrong
    each k i d u e s = elim (slice_get_push ts t k u s) [
      | inl before ↦ new.each k i d u e before
      | inr last ↦
          (let place : k ≡ n = last.0 ∙ new.size in
          let both : ◌≡◌ {A = Option (ℕ × Recorded)} (Some (id, c)) (Some (i, d)) = sym at ∙ ap (λ (j : ℕ). slice_get es j) (sym place) ∙ e in
          let parts = some_pair_parts id i c d both in
          subst (λ (v : Tally). IsTallyOf d.log [] v.due.items v.wrong) last.1 (subst (λ (x : Recorded). IsTallyOf x.log [] t.due.items t.wrong) parts.1 counts))
    ]

-- the case of a pass to no conversation that belongs to the shard and is there
pub tallied_none : (count at : ℕ) (es : Records) (ps : List PassHeld) (p : PassHeld) (ts : List Tally)
    → AreTallies count at es ps ts → ((k : ℕ) (c : Recorded) → slice_get es k ≡ Some (p.conversation, c) → p.conversation % count ≢ at)
    → AreTallies count at es (ps ++ p ∷ []) ts
tallied_none count at es ps p ts tallies none = record {
  size = tallies.size;
  each = λ k id c t e s own. subst (λ (rs : List Receipt). IsTallyOf c.log rs t.due.items t.wrong)
      (sym (receipts_other id ps p (λ same. none k c (e ∙ ap (λ (i : ℕ). let o : Option (ℕ × Recorded) = Some (i, c) in o) (sym same)) (ap (λ (i : ℕ). i % count) same ∙ own))))
      (tallies.each k id c t e s own);
}

-- the case of a pass to the conversation at an index
pub tallied_one : (count at : ℕ) (es : Records) (ps : List PassHeld) (p : PassHeld) (ts : List Tally) (j : ℕ) (x : Recorded) (t u : Tally)
    → AreTallies count at es ps ts → slice_get es j ≡ Some (p.conversation, x) → p.conversation % count ≡ at
    → ((k : ℕ) (c : Recorded) → slice_get es k ≡ Some (p.conversation, c) → k ≡ j)
    → slice_get ts j ≡ Some t → ((seen : List Receipt) → IsTallyOf x.log seen t.due.items t.wrong → IsTallyOf x.log (seen ++ p.receipts) u.due.items u.wrong)
    → AreTallies count at es (ps ++ p ∷ []) (set ts j u)
tallied_one count at es ps p ts j x t u tallies here own only tally counted = record {
  size = length-set ts j u ∙ tallies.size;
  each = λ k id c v e s own_k. each k id c v e own_k (slice_get_set ts j u k v s);
}
  where
    now : IsTallyOf x.log (receipts_of p.conversation (ps ++ p ∷ [])) u.due.items u.wrong
    now = subst (λ (rs : List Receipt). IsTallyOf x.log rs u.due.items u.wrong) (sym (receipts_same p.conversation ps p refl))
        (counted (receipts_of p.conversation ps) (tallies.each j p.conversation x t here tally own))

    each : (k id : ℕ) (c : Recorded) (v : Tally) → slice_get es k ≡ Some (id, c) → id % count ≡ at
        → ((k ≡ j) × (u ≡ v)) ⊎ ((k ≡ j → ⊥) × (slice_get ts k ≡ Some v)) → IsTallyOf c.log (receipts_of id (ps ++ p ∷ [])) v.due.items v.wrong
    each k id c v e own_k (inl same) =
        let both : ◌≡◌ {A = Option (ℕ × Recorded)} (Some (p.conversation, x)) (Some (id, c)) = sym here ∙ ap (λ (i : ℕ). slice_get es i) (sym same.0) ∙ e in
        let parts = some_pair_parts p.conversation id x c both in
        subst (λ (w : Tally). IsTallyOf c.log (receipts_of id (ps ++ p ∷ [])) w.due.items w.wrong) same.1
        (subst (λ (i : ℕ). IsTallyOf c.log (receipts_of i (ps ++ p ∷ [])) u.due.items u.wrong) parts.0
        (subst (λ (y : Recorded). IsTallyOf y.log (receipts_of p.conversation (ps ++ p ∷ [])) u.due.items u.wrong) parts.1 now))
    each k id c v e own_k (inr other) =
        subst (λ (rs : List Receipt). IsTallyOf c.log rs v.due.items v.wrong)
        (sym (receipts_other id ps p (λ same. other.0 (only k c (e ∙ ap (λ (i : ℕ). let o : Option (ℕ × Recorded) = Some (i, c) in o) (sym same))))))
        (tallies.each k id c v e other.1 own_k)

-- ---- the first mismatch

-- that of the conversation at an index, if it belongs to the shard
own_agrees : (count at : ℕ) (ps : List PassHeld) (id place : ℕ) (r : Recorded) → id % count ≡ at → events_at place (receipts_of id ps) ≡ entry_at place r.log → PlaceAgreesIn count at ps id place r
own_agrees count at ps id place r own seen = (λ b. seen, λ b. absurd (true≢false (sym (eq-eqb (id % count) at own) ∙ b)))

pub own_first : (count at : ℕ) (ps : List PassHeld) (id : ℕ) (r : Recorded) (o : Option ℕ) → id % count ≡ at
    → IsFirstDifference r.log (receipts_of id ps) o → IsLeast (λ i place. i ≡ id → PlaceAgreesIn count at ps id place r) (placed_in id o)
own_first count at ps id r o own first = least_one (λ place. PlaceAgreesIn count at ps id place r) id o (by o first)
  where
    by : (o : Option ℕ) → IsFirstDifference r.log (receipts_of id ps) o → IsFirst (λ place. PlaceAgreesIn count at ps id place r) o
    by None all = λ place. own_agrees count at ps id place r own (all place)
    by (Some n) one = (λ agrees. one.0 (agrees.0 (eq-eqb (id % count) at own)), λ place below. own_agrees count at ps id place r own (one.1 place below))

-- that of a conversation that belongs to another shard
pub other_first : (count at : ℕ) (ps : List PassHeld) (id : ℕ) (r : Recorded) → (id % count ≡ at → ⊥)
    → IsLeast (λ i place. i ≡ id → PlaceAgreesIn count at ps id place r) (placed_in id (Some 1))
other_first count at ps id r other =
    let no = ne_eqb (id % count) at other in
    least_one (λ place. PlaceAgreesIn count at ps id place r) id (Some 1)
    (λ agrees. agrees.1 no refl, λ place below. (λ b. absurd (true≢false (sym b ∙ no)), λ b e. omega (arith, below, e)))

-- that of the first conversations and one more
pub first_more : (n count at : ℕ) (es : Records) (ps : List PassHeld) (id : ℕ) (c : Recorded) (a b : Option MismatchPlace)
    → slice_get es n ≡ Some (id, c) → IsLeast (PlaceAgreesBelow n count at es ps) a → IsLeast (λ i place. i ≡ id → PlaceAgreesIn count at ps id place c) b
    → IsLeast (PlaceAgreesBelow (n + 1) count at es ps) (earlier_of a b)
first_more n count at es ps id c a b here before last =
    least_same _ (PlaceAgreesBelow (n + 1) count at es ps) (earlier_of a b) to from (least_both (PlaceAgreesBelow n count at es ps) (λ i place. i ≡ id → PlaceAgreesIn count at ps id place c) a b before last)
  where
    to : (i place : ℕ) → PlaceAgreesBelow n count at es ps i place × (i ≡ id → PlaceAgreesIn count at ps id place c) → PlaceAgreesBelow (n + 1) count at es ps i place
    to i place both k d below e = elim (cases_lt k n) [
      | inl less ↦ both.0 k d less e
      | inr more ↦
          (let same : k ≡ n = omega arith in
          let pair : ◌≡◌ {A = Option (ℕ × Recorded)} (Some (id, c)) (Some (i, d)) = sym here ∙ ap (λ (j : ℕ). slice_get es j) (sym same) ∙ e in
          let parts = some_pair_parts id i c d pair in
          subst (λ (j : ℕ). PlaceAgreesIn count at ps j place d) parts.0
          (subst (λ (x : Recorded). PlaceAgreesIn count at ps id place x) parts.1 (both.1 (sym parts.0))))
    ]

    from : (i place : ℕ) → PlaceAgreesBelow (n + 1) count at es ps i place → PlaceAgreesBelow n count at es ps i place × (i ≡ id → PlaceAgreesIn count at ps id place c)
    from i place all = (
      λ k d below e. all k d (omega arith) e,
      λ same. subst (λ (j : ℕ). PlaceAgreesIn count at ps j place c) same
          (all n c (omega arith) (here ∙ ap (λ (j : ℕ). let o : Option (ℕ × Recorded) = Some (j, c) in o) (sym same))),
    )

pub first_none : (count at : ℕ) (es : Records) (ps : List PassHeld) → IsLeast (PlaceAgreesBelow 0 count at es ps) None
first_none count at es ps i place k d below e = absurd (omega (arith, below))

-- that of all conversations
pub first_all : (count at : ℕ) (es : Records) (ps : List PassHeld) (o : Option MismatchPlace)
    → IsLeast (PlaceAgreesBelow (length es) count at es ps) o → IsLeast (PlaceAgreesInShard count at es ps) o
first_all count at es ps o least =
    least_same (PlaceAgreesBelow (length es) count at es ps) (PlaceAgreesInShard count at es ps) o
    (λ i place agrees k d e. agrees k d (slice_get_within es k (i, d) e) e)
    (λ i place agrees k d below e. agrees k d e) least
