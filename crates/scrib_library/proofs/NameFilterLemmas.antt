-- A name whose bit a filter lacks is not among its names.
use Rattle.std.proofs.Common.{◌≡◌, ℕ, zero, suc, min, ◌⊎◌, refl, ◌+◌, ◌/◌, ◌^◌, ◌<◌, ◌≤◌, List, [], ◌∷◌, length, get_or, take, drop, inl, inr, sym, ap, ◌∙◌, subst, arith}
use Rattle.std.specs.Borrow.{Bor}
use Rattle.std.specs.List.{Contains}
use Rattle.std.specs.Int.{bit_at}
use Rattle.std.specs.Int.Bits.{bit_or, bit_and}
use Rattle.std.proofs.lemmas.Nat.{and_le_r}
use Rattle.std.proofs.lemmas.Nat.Bits.{bit_at_or, bit_at_and, bit_at-zero, bit_at-lt, bit_at-pow_same}
use Rattle.std.proofs.lemmas.List.{drop_more, take_all}
use Rattle.scrib_tree.specs.declared.tree.Import.{Import}
use Rattle.scrib_tree.specs.declared.tree.ModuleTree.{ModuleTree}
use Rattle.scrib_library.specs.Affected.{names_now, ImportsSome}
use Rattle.scrib_types.specs.Hashing.{hash_bytes}
use Rattle.scrib_static_checks.specs.Names.{last_name}
use Rattle.scrib_library.specs.NameFilter.{filter_bit, filter_from, filter_of, IsNameFilter, IsFilterOfNames, LacksBit}
use Rattle.scrib_library.proofs.Lists.{Contains-nil, Contains-cases, Contains-map_back}
use Rattle.scrib_library.proofs.EntryLemmas.{taken_cases}

-- a bit of either operand is in the union
or_left : (a b k : ℕ) → bit_at a k ≡ 1 → bit_at (bit_or a b) k ≡ 1
or_left a b k e = let both = bit_at_or a b k in let low = bit_at-lt b k in omega (arith, both, e, low)

or_right : (a b k : ℕ) → bit_at b k ≡ 1 → bit_at (bit_or a b) k ≡ 1
or_right a b k e = let both = bit_at_or a b k in let low = bit_at-lt a k in omega (arith, both, e, low)

-- a bit that is set remains set
kept : (is : List Import) (s k : ℕ) → bit_at s k ≡ 1 → bit_at (filter_from s is) k ≡ 1
kept [] s k h = h
kept (i ∷ is) s k h = kept is (bit_or s (2 ^ filter_bit i.module)) k (or_left s (2 ^ filter_bit i.module) k h)

each_bit : (is : List Import) (s : ℕ) (i : Import) → Contains is i → bit_at (filter_from s is) (filter_bit i.module) ≡ 1
each_bit [] s i p = absurd (Contains-nil i p)
each_bit (j ∷ is) s i p =
    let b = 2 ^ filter_bit j.module in
    elim (Contains-cases j is i p) [
      | inl e ↦ (
          let P : Import → Type 0 = λ x. bit_at (bit_or s b) (filter_bit x.module) ≡ 1 in
          kept is (bit_or s b) (filter_bit i.module) (subst P e (or_right s b (filter_bit j.module) (bit_at-pow_same (filter_bit j.module)))))
      | inr q ↦ each_bit is (bit_or s b) i q
    ]

pub is_filter : (is : List Import) → IsNameFilter is (filter_of is)
is_filter is i p = each_bit is 0 i p

-- the case of one more import
pub filter_more : (is : List Import) (k : ℕ) (i : Import) (old new whole : ℕ) → k < length is → i ≡ get_or is k i → filter_from old (drop k is) ≡ whole → new ≡ bit_or old (2 ^ filter_bit i.module) → filter_from new (drop (k + 1) is) ≡ whole
filter_more is k i old new whole lt at h is_new =
    ap (λ s. filter_from s (drop (k + 1) is)) is_new ∙ sym (ap (filter_from old) (drop_more is k i lt ∙ ap (λ x. x ∷ drop (k + 1) is) (sym at))) ∙ h

pub bit_small : (name : List (List ℕ)) → filter_bit name < 64
bit_small name = let small = and_le_r (hash_bytes 0 (last_name name) / 2 ^ 32) 63 in omega (arith, small)

-- filters without a common bit
least : (x y : ℕ) → min x y ≡ 0 → (x ≡ 0) ⊎ (y ≡ 0)
least zero y e = inl refl
least (suc x) zero e = inr refl
least (suc x) (suc y) e = absurd (omega (arith, e))

pub no_common : (a b : ℕ) → bit_and a b ≡ 0 → (k : ℕ) → LacksBit a k ⊎ LacksBit b k
no_common a b e k =
    least (bit_at a k) (bit_at b k) (sym (bit_at_and a b k) ∙ ap (λ n. bit_at n k) e ∙ bit_at-zero k)

-- a module whose filter has no bit in common with that of the names imports none of them
pub sifted_out : (m : ModuleTree) (s t : ℕ) (names : List (List (List ℕ))) → IsNameFilter m.imports s → IsFilterOfNames names t → ((k : ℕ) → LacksBit s k ⊎ LacksBit t k) → ImportsSome names m → ⊥
sifted_out m s t names h g apart i =
    let one = h i.by i.imports in
    let other = g i.by.module i.named in
    elim (apart (filter_bit i.by.module)) [
      | inl lacks ↦ absurd (omega (arith, one, lacks))
      | inr lacks ↦ absurd (omega (arith, other, lacks))
    ]

-- the filter has the bit of each of these
abbrev pub HasEach : List (Bor (List (List ℕ))) → ℕ → Type 0
HasEach rs s = (r : Bor (List (List ℕ))) → Contains rs r → bit_at s (filter_bit r.now) ≡ 1

pub each_none : (rs : List (Bor (List (List ℕ)))) (s : ℕ) → HasEach (take 0 rs) s
each_none rs s r p = absurd (Contains-nil r p)

-- the case of one more name
pub each_more : (rs : List (Bor (List (List ℕ)))) (k : ℕ) (r : Bor (List (List ℕ))) (old new : ℕ) → k < length rs → r ≡ get_or rs k r → HasEach (take k rs) old → new ≡ bit_or old (2 ^ filter_bit r.now) → HasEach (take (k + 1) rs) new
each_more rs k r old new lt at h is_new q p =
    let b = 2 ^ filter_bit r.now in
    let P : ℕ → Type 0 = λ s. bit_at s (filter_bit q.now) ≡ 1 in
    subst P (sym is_new) (elim (taken_cases rs k r lt at q p) [
      | inl old_one ↦ or_left old b (filter_bit q.now) (h q old_one)
      | inr e ↦ (let Q : Bor (List (List ℕ)) → Type 0 = λ x. bit_at (bit_or old b) (filter_bit x.now) ≡ 1 in subst Q e (or_right old b (filter_bit r.now) (bit_at-pow_same (filter_bit r.now))))
    ])

pub each_all : (rs : List (Bor (List (List ℕ)))) (k s : ℕ) → length rs ≤ k → HasEach (take k rs) s → IsFilterOfNames (names_now rs) s
each_all rs k s le h n p =
    let found = Contains-map_back (λ (r : Bor (List (List ℕ))). r.now) rs n p in
    let P : List (Bor (List (List ℕ))) → Type 0 = λ l. HasEach l s in
    let Q : List (List ℕ) → Type 0 = λ m. bit_at s (filter_bit m) ≡ 1 in
    subst Q found.2 (subst P (take_all k rs le) h found.0 found.1)

-- a name whose bit the filter lacks is not among its names
pub lacks_none : (ns : List (List (List ℕ))) (s : ℕ) (name : List (List ℕ)) → IsFilterOfNames ns s → LacksBit s (filter_bit name) → Contains ns name → ⊥
lacks_none ns s name h lacks p = absurd (omega (arith, h name p, lacks))
