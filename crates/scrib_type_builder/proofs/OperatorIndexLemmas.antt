-- Branches are found by their operators.
use Rattle.std.proofs.Common.{◌≡◌, ◌≢◌, ◌⊎◌, ℕ, zero, suc, ◌+◌, ◌<◌, ◌≤◌, Bool, true, false, ◌||◌, List, [], ◌∷◌, ◌++◌, length, leb, set, replicate, Option, Some, None, refl, sym, ap, ◌∙◌, subst, ⊎_elim, inl, inr, arith}
use Rattle.std.specs.List.{slice_get}
use Rattle.std.proofs.lemmas.Bool.{false≢true, or_from, or_left, or_right, leb-true, leb-false}
use Rattle.std.proofs.lemmas.List.{length-set, length-append, length_push}
use Rattle.std.proofs.lemmas.Option.{slice_get_within}
use Rattle.std.proofs.lemmas.Slice.Eq.{bytes_eq-Decides}
use Rattle.scrib_types.specs.declared.message.Message.{Message}
use Rattle.scrib_types.specs.declared.global.GlobalType.{GlobalType}
use Rattle.scrib_types.specs.GlobalView.{global_branches}
use Rattle.scrib_types.specs.Trees.{GlobalTree, GlobalBranches, NoBranch, Branch}
use Rattle.scrib_types.specs.WellFormed.{has_operator, same_operator}
use Rattle.scrib_static_checks.specs.Faults.{share_operator}
use Rattle.scrib_type_builder.specs.Operators.{operator_slot, IsLatest, AreChained, AreIndexed}
use Rattle.scrib_static_checks.proofs.Slots.{empty_slot, last_or_before, get_before}
use Rattle.scrib_static_checks.proofs.Walks.{get_either, get_set}

-- two operators

same_names : (a b : Option (List ℕ)) → same_operator a b ≡ true → a ≡ b
same_names None None e = refl
same_names None (Some y) e = absurd (false≢true e)
same_names (Some x) None e = absurd (false≢true e)
same_names (Some x) (Some y) e = ap Some ((bytes_eq-Decides x y).0 e)

same_itself : (a : Option (List ℕ)) → same_operator a a ≡ true
same_itself None = refl
same_itself (Some x) = (bytes_eq-Decides x x).1 refl

alike : (x y : Bool) → (x ≡ true → y ≡ true) → (y ≡ true → x ≡ true) → x ≡ y
alike true y f g = sym (f refl)
alike false true f g = g refl
alike false false f g = refl

same_sym : (a b : Option (List ℕ)) → same_operator a b ≡ same_operator b a
same_sym a b =
    alike (same_operator a b) (same_operator b a) (λ e. subst (λ x. same_operator x a ≡ true) (same_names a b e) (same_itself a)) (λ e. subst (λ x. same_operator x b ≡ true) (same_names b a e) (same_itself b))

-- the operators of two slots differ
slots_differ : (size s : ℕ) (a b : Option (List ℕ)) → operator_slot size a ≡ s → operator_slot size b ≢ s → same_operator a b ≡ false
slots_differ size s a b e ne = case (same_operator a b) refl
  where
    case : (t : Bool) → same_operator a b ≡ t → same_operator a b ≡ false
    case true h = absurd (ne (ap (operator_slot size) (sym (same_names a b h)) ∙ e))
    case false h = h

-- an operator in common

share_none : (cs : GlobalBranches) → share_operator cs NoBranch ≡ false
share_none NoBranch = refl
share_none (Branch m g cs) = share_none cs

exchange : (x y z w : Bool) → ((x || y) || (z || w)) ≡ ((x || z) || (y || w))
exchange true y z w = refl
exchange false true true w = refl
exchange false true false w = refl
exchange false false z w = refl

share_more : (m : Message) (g : GlobalTree) (bs cs : GlobalBranches) → share_operator cs (Branch m g bs) ≡ (has_operator m.op cs || share_operator cs bs)
share_more m g bs NoBranch = refl
share_more m g bs (Branch n h cs) =
    ap (λ x. (same_operator n.op m.op || has_operator n.op bs) || x) (share_more m g bs cs) ∙ ap (λ x. (x || has_operator n.op bs) || (has_operator m.op cs || share_operator cs bs)) (same_sym n.op m.op)
    ∙ exchange (same_operator m.op n.op) (has_operator n.op bs) (has_operator m.op cs) (share_operator cs bs)

pub share_sym : (bs cs : GlobalBranches) → share_operator bs cs ≡ share_operator cs bs
share_sym NoBranch cs = sym (share_none cs)
share_sym (Branch m g bs) cs =
    ap (λ x. has_operator m.op cs || x) (share_sym bs cs) ∙ sym (share_more m g bs cs)

-- an operator among those of branches, by their indices

has_none : (o : Option (List ℕ)) (bs : List (Message × GlobalType)) → ((j : ℕ) (b : Message × GlobalType) → slice_get bs j ≡ Some b → same_operator o b.0.op ≡ false) → has_operator o (global_branches bs) ≡ false
has_none o [] f = refl
has_none o (b ∷ bs) f =
    or_from (same_operator o b.0.op) (has_operator o (global_branches bs)) (f zero b refl) (has_none o bs (λ j c e. f (suc j) c e))

pub has_one : (o : Option (List ℕ)) (bs : List (Message × GlobalType)) (k : ℕ) (b : Message × GlobalType) → slice_get bs k ≡ Some b → same_operator o b.0.op ≡ true → has_operator o (global_branches bs) ≡ true
has_one o [] k b e s = absurd (cc e)
has_one o (c ∷ bs) zero b e s =
    let same : c ≡ b = cc e in
    or_left (same_operator o c.0.op) (has_operator o (global_branches bs)) (ap (λ (x : Message × GlobalType). same_operator o x.0.op) same ∙ s)
has_one o (c ∷ bs) (suc k) b e s =
    or_right (same_operator o c.0.op) (has_operator o (global_branches bs)) (has_one o bs k b e s)

-- adding to the index

pub none_indexed : (size : ℕ) (latest earlier : List (Option ℕ)) → latest ≡ replicate size None → earlier ≡ [] → AreIndexed [] latest earlier
none_indexed size latest earlier e f some = record {
  within = omega arith;
  counted = ap length f;
  last = here;
  linked = λ i b o h k. absurd (cc h);
}
  where
    here : (s : ℕ) (o : Option ℕ) → slice_get latest s ≡ Some o → IsLatest [] (length latest) s 0 o
    here s None h = λ j b g l same. absurd (omega (arith, l))
    here s (Some k) h = absurd (empty_slot size s k (subst (λ xs. slice_get xs s ≡ Some (Some k)) e h))

latest_more : (bs cs : List (Message × GlobalType)) (size s n : ℕ) (o : Option ℕ) → n ≤ length bs → IsLatest bs size s n o → IsLatest (bs ++ cs) size s n o
latest_more bs cs size s n None w f = λ j b e l. f j b (get_before bs cs j b (omega (arith, l, w)) e) l
latest_more bs cs size s n (Some k) w f =
    let low : k < n = f.0 in
    (low, λ b e. f.1 b (get_before bs cs k b (omega (arith, low, w)) e), λ j b e a l. f.2 j b (get_before bs cs j b (omega (arith, l, w)) e) a l)

-- more branches, which are not in the index yet
pub chained_more : (bs cs : List (Message × GlobalType)) (latest earlier : List (Option ℕ)) → AreChained bs (length bs) latest earlier → AreChained (bs ++ cs) (length earlier) latest earlier
chained_more bs cs latest earlier c =
    let size = length latest in
    let count : length earlier ≡ length bs = c.counted in record {
      within = omega (arith, count, length-append bs cs);
      counted = refl;
      last = λ s o h. latest_more bs cs size s (length earlier) o (omega (arith, count)) (subst (λ n. IsLatest bs size s n o) (sym count) (c.last s o h));
      linked = λ i b o h k. let low : i < length bs = omega (arith, slice_get_within earlier i o k, count) in latest_more bs cs size (operator_slot size b.0.op) i o (omega (arith, low)) (c.linked i b o (get_before bs cs i b low h) k);
    }

other_slot : (bs : List (Message × GlobalType)) (size s n : ℕ) (b : Message × GlobalType) → slice_get bs n ≡ Some b → operator_slot size b.0.op ≢ s → (j : ℕ) (d : Message × GlobalType) → slice_get bs j ≡ Some d → j ≡ n → operator_slot size d.0.op ≢ s
other_slot bs size s n b here ne j d e x same =
    let both : slice_get bs n ≡ Some d = ap (slice_get bs) (sym x) ∙ e in
    let is : b ≡ d = cc (here, both) in
    ne (ap (λ (y : Message × GlobalType). operator_slot size y.0.op) is ∙ same)

latest_past : (bs : List (Message × GlobalType)) (size s n : ℕ) (b : Message × GlobalType) (o : Option ℕ) → slice_get bs n ≡ Some b → operator_slot size b.0.op ≢ s → IsLatest bs size s n o → IsLatest bs size s (n + 1) o
latest_past bs size s n b None here ne f =
    λ j d e l. ⊎_elim (λ x. f j d e x) (λ x. other_slot bs size s n b here ne j d e x) (last_or_before j n l)
latest_past bs size s n b (Some k) here ne f =
    let low : k < n = f.0 in
    (omega (arith, low), f.1, λ j d e a l. ⊎_elim (λ x. f.2 j d e a x) (λ x. other_slot bs size s n b here ne j d e x) (last_or_before j n l))

latest_here : (bs : List (Message × GlobalType)) (size s n : ℕ) (b : Message × GlobalType) → slice_get bs n ≡ Some b → operator_slot size b.0.op ≡ s → IsLatest bs size s (n + 1) (Some n)
latest_here bs size s n b here at =
    (omega arith, λ d e. let is : b ≡ d = cc (here, e) in ap (λ (y : Message × GlobalType). operator_slot size y.0.op) (sym is) ∙ at, λ j d e a l. absurd (omega (arith, a, l)))

-- one more branch is added to the index
pub next_chained : (bs : List (Message × GlobalType)) (n s : ℕ) (b : Message × GlobalType) (o : Option ℕ) (latest earlier : List (Option ℕ)) → slice_get bs n ≡ Some b → s ≡ operator_slot (length latest) b.0.op → slice_get latest s ≡ Some o
    → AreChained bs n latest earlier → AreChained bs (n + 1) (set latest s (Some n)) (earlier ++ o ∷ [])
next_chained bs n s b o latest earlier here at there c = record {
  within = omega (arith, slice_get_within bs n b here);
  counted = length_push earlier o ∙ ap (λ z. z + 1) c.counted;
  last =
      λ p q h. subst (λ z. IsLatest bs z p (n + 1) q) (sym long) (⊎_elim (λ x. fresh p q x.0 x.1) (λ x. kept p q x.0 x.1) (get_set latest s (Some n) p q h));
  linked =
      λ i d q f h. subst (λ z. IsLatest bs z (operator_slot z d.0.op) i q) (sym long) (⊎_elim (λ x. c.linked i d q f x) (λ x. pushed i d q f x.0 x.1) (get_either earlier o q i h));
}
  where
    long : length (set latest s (Some n)) ≡ length latest
    long = length-set latest s (Some n)

    fresh : (p : ℕ) (q : Option ℕ) → p ≡ s → Some n ≡ q → IsLatest bs (length latest) p (n + 1) q
    fresh p q e f = subst (λ z. IsLatest bs (length latest) p (n + 1) z) f (latest_here bs (length latest) p n b here (sym at ∙ sym e))

    kept : (p : ℕ) (q : Option ℕ) → p ≢ s → slice_get latest p ≡ Some q → IsLatest bs (length latest) p (n + 1) q
    kept p q ne e = latest_past bs (length latest) p n b q here (λ same. ne (sym same ∙ sym at)) (c.last p q e)

    pushed : (i : ℕ) (d : Message × GlobalType) (q : Option ℕ) → slice_get bs i ≡ Some d → i ≡ length earlier → o ≡ q → IsLatest bs (length latest) (operator_slot (length latest) d.0.op) i q
    pushed i d q f e g =
        let last : i ≡ n = e ∙ c.counted in
        let both : slice_get bs n ≡ Some d = ap (slice_get bs) (sym last) ∙ f in
        let is : b ≡ d = cc (here, both) in
        let slot : s ≡ operator_slot (length latest) d.0.op = at ∙ ap (λ (y : Message × GlobalType). operator_slot (length latest) y.0.op) is in
        subst (λ z. IsLatest bs (length latest) (operator_slot (length latest) d.0.op) z q) (sym last) (subst (λ z. IsLatest bs (length latest) z n q) slot (subst (λ z. IsLatest bs (length latest) s n z) g (c.last s o there)))

-- the search from the last branch of a slot to the first

-- the next branch is the last of the slot before this index, and those from the index on have other operators
pub record IsPassed (bs : List (Message × GlobalType)) (size : ℕ) (op : Option (List ℕ)) (next : Option ℕ) : Type 0 where
  pub before : ℕ
  pub within : before ≤ length bs
  pub latest : IsLatest bs size (operator_slot size op) before next
  pub others : (j : ℕ) (b : Message × GlobalType) → slice_get bs j ≡ Some b → before ≤ j → same_operator op b.0.op ≡ false

pub walk_begins : (bs : List (Message × GlobalType)) (op : Option (List ℕ)) (s : ℕ) (o : Option ℕ) (latest earlier : List (Option ℕ)) → AreChained bs (length bs) latest earlier → s ≡ operator_slot (length latest) op → slice_get latest s ≡ Some o → IsPassed bs (length latest) op o
walk_begins bs op s o latest earlier c at there = record {
  before = length bs;
  within = omega arith;
  latest = subst (λ z. IsLatest bs (length latest) z (length bs) o) at (c.last s o there);
  others = λ j b e l. absurd (omega (arith, l, slice_get_within bs j b e));
}

-- the index of the next branch
abbrev pub place_of : Option ℕ → ℕ
place_of None = 0
place_of (Some k) = k + 1

pub next_within : (bs : List (Message × GlobalType)) (size k : ℕ) (op : Option (List ℕ)) → IsPassed bs size op (Some k) → k < length bs
next_within bs size k op w = let low : k < w.before = w.latest.0 in omega (arith, low, w.within)

pub walk_goes : (bs : List (Message × GlobalType)) (k : ℕ) (b : Message × GlobalType) (op : Option (List ℕ)) (o : Option ℕ) (latest earlier : List (Option ℕ)) → AreChained bs (length bs) latest earlier → slice_get bs k ≡ Some b → slice_get earlier k ≡ Some o → same_operator op b.0.op ≡ false → IsPassed bs (length latest) op (Some k)
    → IsPassed bs (length latest) op o
walk_goes bs k b op o latest earlier c here there ne w = record {
  before = k;
  within = omega (arith, next_within bs (length latest) k op w);
  latest = subst (λ z. IsLatest bs (length latest) z k o) (w.latest.1 b here) (c.linked k b o here there);
  others = λ j d e l. from j d e (last_or_before k j (omega (arith, l)));
}
  where
    within : (j : ℕ) (d : Message × GlobalType) → slice_get bs j ≡ Some d → k < j → (leb w.before j ≡ true) ⊎ (leb w.before j ≡ false) → same_operator op d.0.op ≡ false
    within j d e l t =
        ⊎_elim (λ h. w.others j d e (leb-true w.before j h)) (λ h. slots_differ (length latest) (operator_slot (length latest) op) op d.0.op refl (w.latest.2 j d e l (leb-false w.before j h))) t

    either : (t : Bool) → (t ≡ true) ⊎ (t ≡ false)
    either true = inl refl
    either false = inr refl

    from : (j : ℕ) (d : Message × GlobalType) → slice_get bs j ≡ Some d → (k < j) ⊎ (k ≡ j) → same_operator op d.0.op ≡ false
    from j d e t =
        ⊎_elim (λ l. within j d e l (either (leb w.before j))) (λ same. let both : slice_get bs k ≡ Some d = ap (slice_get bs) same ∙ e in let is : b ≡ d = cc (here, both) in ap (λ (y : Message × GlobalType). same_operator op y.0.op) (sym is) ∙ ne) t

-- the next index is smaller
pub walk_shrinks : (bs : List (Message × GlobalType)) (k : ℕ) (b : Message × GlobalType) (o : Option ℕ) (latest earlier : List (Option ℕ)) → AreChained bs (length bs) latest earlier → slice_get bs k ≡ Some b → slice_get earlier k ≡ Some o → place_of o < k + 1
walk_shrinks bs k b o latest earlier c here there = below o (c.linked k b o here there)
  where
    below : (o : Option ℕ) → IsLatest bs (length latest) (operator_slot (length latest) b.0.op) k o → place_of o < k + 1
    below None f = omega arith
    below (Some p) f = let low : p < k = f.0 in omega (arith, low)

pub walk_ends : (bs : List (Message × GlobalType)) (size : ℕ) (op : Option (List ℕ)) → IsPassed bs size op None → has_operator op (global_branches bs) ≡ false
walk_ends bs size op w = has_none op bs (λ j b e. from j b e (leb w.before j) refl)
  where
    from : (j : ℕ) (b : Message × GlobalType) → slice_get bs j ≡ Some b → (t : Bool) → leb w.before j ≡ t → same_operator op b.0.op ≡ false
    from j b e true h = w.others j b e (leb-true w.before j h)
    from j b e false h = slots_differ size (operator_slot size op) op b.0.op refl (w.latest j b e (leb-false w.before j h))
