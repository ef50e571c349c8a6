-- Modules of different names, when one is put or removed.
use Rattle.std.proofs.Common.{◌≡◌, ◌≢◌, ℕ, suc, ◌<◌, ◌≤◌, Bool, true, false, not, ◌||◌, List, [], ◌∷◌, ◌++◌, length, get_or, drop, Some, None, inl, inr, refl, sym, ap, ◌∙◌, subst, arith, length-append}
use Rattle.std.specs.List.{Contains, remove}
use Rattle.std.proofs.Math.Seq.{take-append_seam, get_or-append_seam}
use Rattle.std.proofs.lemmas.List.Sums.{sum_by-cons}
use Rattle.std.proofs.lemmas.Bool.{false≢true, and_parts, and_from, or_parts, false_from_ne_true}
use Rattle.scrib_tree.specs.declared.tree.ModuleTree.{ModuleTree}
use Rattle.scrib_tree.specs.declared.tree.Import.{Import}
use Rattle.scrib_static_checks.specs.Names.{dotted_eq, has_name, distinct_names, module_names, with_module}
use Rattle.scrib_elaborate.specs.Locality.{without_module}
use Rattle.scrib_static_checks.specs.Table.{IsPlace}
use Rattle.scrib_static_checks.proofs.NameLemmas.{dotted_eq-Decides}
use Rattle.scrib_library.specs.Modules.{is_missing, missing_import, protocol_count, AreFew}
use Rattle.scrib_library.proofs.Lists.{Contains-nil, Contains-head, Contains-head_at, Contains-tail, Contains-cases}
use Rattle.scrib_library.proofs.Places.{either, or_right, or_cases, has_name-there}

flipped : (b : Bool) → not b ≡ true → b ≡ false
flipped true h = absurd (false≢true h)
flipped false h = refl

none_of : (b c : Bool) → b ≡ false → c ≡ false → (b || c) ≡ false
none_of true c h k = absurd (false≢true (sym h))
none_of false c h k = k

-- ---- one module and the others

abbrev AreDistinct : List ModuleTree → Type 0
AreDistinct ms = distinct_names (module_names ms) ≡ true

parts : (m : ModuleTree) (ms : List ModuleTree) → AreDistinct (m ∷ ms) → (has_name m.name (module_names ms) ≡ false) × AreDistinct ms
parts m ms h =
    let p = and_parts (not (has_name m.name (module_names ms))) (distinct_names (module_names ms)) h in
    (flipped (has_name m.name (module_names ms)) p.0, p.1)

whole : (m : ModuleTree) (ms : List ModuleTree) → has_name m.name (module_names ms) ≡ false → AreDistinct ms → AreDistinct (m ∷ ms)
whole m ms h d = and_from (not (has_name m.name (module_names ms))) (distinct_names (module_names ms)) (ap not h) d

not_among : (n : List (List ℕ)) (ms : List ModuleTree) (m : ModuleTree) → has_name n (module_names ms) ≡ false → Contains ms m → m.name ≢ n
not_among n ms m h p e = false≢true (sym h ∙ has_name-there n ms m p (sym e))

-- a name belongs to one module
pub named_once : (ms : List ModuleTree) → AreDistinct ms → (a b : ModuleTree) → Contains ms a → Contains ms b → a.name ≡ b.name → a ≡ b
named_once [] d a b p q e = absurd (Contains-nil a p)
named_once (m ∷ ms) d a b p q e =
    let h = parts m ms d in
    elim (Contains-cases m ms a p) [
      | inl x ↦ elim (Contains-cases m ms b q) [
        | inl y ↦ sym x ∙ y
        | inr r ↦ absurd (not_among m.name ms b h.0 r (sym e ∙ ap (λ (t : ModuleTree). t.name) (sym x)))
      ]
      | inr s ↦ elim (Contains-cases m ms b q) [
        | inl y ↦ absurd (not_among m.name ms a h.0 s (e ∙ ap (λ (t : ModuleTree). t.name) (sym y)))
        | inr r ↦ named_once ms h.1 a b s r e
      ]
    ]

-- ---- one is put

not_with : (n : List (List ℕ)) (m : ModuleTree) (ms : List ModuleTree) → has_name n (module_names ms) ≡ false → dotted_eq n m.name ≡ false → has_name n (module_names (with_module m ms)) ≡ false
not_with n m [] h o = none_of (dotted_eq n m.name) false o refl
not_with n m (x ∷ xs) h o =
    let p = or_parts (dotted_eq n x.name) (has_name n (module_names xs)) h in
    elim (either (dotted_eq m.name x.name)) [
      | inl t ↦ rw t (none_of (dotted_eq n m.name) (has_name n (module_names xs)) o p.1)
      | inr f ↦ rw f (none_of (dotted_eq n x.name) (has_name n (module_names (with_module m xs))) p.0 (not_with n m xs p.1 o))
    ]

turned : (a b : List (List ℕ)) → dotted_eq a b ≡ false → dotted_eq b a ≡ false
turned a b f = false_from_ne_true (dotted_eq b a) (λ t. false≢true (sym f ∙ (dotted_eq-Decides a b).1 (sym ((dotted_eq-Decides b a).0 t))))

pub distinct_with : (m : ModuleTree) (ms : List ModuleTree) → AreDistinct ms → AreDistinct (with_module m ms)
distinct_with m [] d = refl
distinct_with m (x ∷ xs) d =
    let h = parts x xs d in
    elim (either (dotted_eq m.name x.name)) [
      | inl t ↦ rw t (whole m xs (let P : List (List ℕ) → Type 0 = λ n. has_name n (module_names xs) ≡ false in subst P (sym ((dotted_eq-Decides m.name x.name).0 t)) h.0) h.1)
      | inr f ↦ rw f (whole x (with_module m xs) (not_with x.name m xs h.0 (turned m.name x.name f)) (distinct_with m xs h.1))
    ]

-- ---- one is removed

not_without : (n k : List (List ℕ)) (ms : List ModuleTree) → has_name n (module_names ms) ≡ false → has_name n (module_names (without_module k ms)) ≡ false
not_without n k [] h = h
not_without n k (x ∷ xs) h =
    let p = or_parts (dotted_eq n x.name) (has_name n (module_names xs)) h in
    elim (either (dotted_eq k x.name)) [
      | inl t ↦ rw t p.1
      | inr f ↦ rw f (none_of (dotted_eq n x.name) (has_name n (module_names (without_module k xs))) p.0 (not_without n k xs p.1))
    ]

pub distinct_without : (k : List (List ℕ)) (ms : List ModuleTree) → AreDistinct ms → AreDistinct (without_module k ms)
distinct_without k [] d = d
distinct_without k (x ∷ xs) d =
    let h = parts x xs d in
    elim (either (dotted_eq k x.name)) [
      | inl t ↦ rw t h.1
      | inr f ↦ rw f (whole x (without_module k xs) (not_without x.name k xs h.0) (distinct_without k xs h.1))
    ]

-- the remaining modules are no more than all
fewer_without : (k : List (List ℕ)) (ms : List ModuleTree) → (length (without_module k ms) ≤ length ms) × (protocol_count (without_module k ms) ≤ protocol_count ms)
fewer_without k [] = (omega arith, omega arith)
fewer_without k (x ∷ xs) =
    let rest = fewer_without k xs in
    let all = sum_by-cons (λ (m : ModuleTree). length m.protocols) x xs in
    let others = sum_by-cons (λ (m : ModuleTree). length m.protocols) x (without_module k xs) in
    elim (either (dotted_eq k x.name)) [
      | inl t ↦ rw t (omega arith, omega (arith, all))
      | inr f ↦ rw f (omega (arith, rest.0), omega (arith, rest.1, all, others))
    ]

pub few_without : (k : List (List ℕ)) (ms : List ModuleTree) → AreFew ms → AreFew (without_module k ms)
few_without k ms h =
    let fewer = fewer_without k ms in
    record { count = omega (arith, fewer.0, h.count); protocols = omega (arith, fewer.1, h.protocols) }

pub without-back : (k : List (List ℕ)) (ms : List ModuleTree) (m : ModuleTree) → Contains (without_module k ms) m → Contains ms m
without-back k [] m p = p
without-back k (x ∷ xs) m p =
    elim (either (dotted_eq k x.name)) [
      | inl t ↦ Contains-tail x xs m (rw t at p)
      | inr f ↦ elim (Contains-cases x (without_module k xs) m (rw f at p)) [
        | inl e ↦ Contains-head_at x xs m e
        | inr q ↦ Contains-tail x xs m (without-back k xs m q)
      ]
    ]

-- no other module has its name
pub without-other : (k : List (List ℕ)) (ms : List ModuleTree) → AreDistinct ms → (m : ModuleTree) → Contains (without_module k ms) m → m.name ≢ k
without-other k [] d m p e = Contains-nil m p
without-other k (x ∷ xs) d m p e =
    let h = parts x xs d in
    elim (either (dotted_eq k x.name)) [
      | inl t ↦ not_among x.name xs m h.0 (rw t at p) (e ∙ (dotted_eq-Decides k x.name).0 t)
      | inr f ↦ elim (Contains-cases x (without_module k xs) m (rw f at p)) [
        | inl is ↦ false≢true (sym f ∙ (dotted_eq-Decides k x.name).1 (sym e ∙ ap (λ (t : ModuleTree). t.name) (sym is)))
        | inr q ↦ without-other k xs h.1 m q e
      ]
    ]

-- the other names stay
name_stays : (n k : List (List ℕ)) (ms : List ModuleTree) → n ≢ k → has_name n (module_names ms) ≡ true → has_name n (module_names (without_module k ms)) ≡ true
name_stays n k [] other h = h
name_stays n k (x ∷ xs) other h =
    elim (either (dotted_eq k x.name)) [
      | inl t ↦ rw t (elim (or_cases (dotted_eq n x.name) (has_name n (module_names xs)) h) [
        | inl e ↦ absurd (other ((dotted_eq-Decides n x.name).0 e ∙ sym ((dotted_eq-Decides k x.name).0 t)))
        | inr r ↦ r
      ])
      | inr f ↦ rw f (elim (or_cases (dotted_eq n x.name) (has_name n (module_names xs)) h) [
        | inl e ↦ rw e refl
        | inr r ↦ or_right (dotted_eq n x.name) (has_name n (module_names (without_module k xs))) (name_stays n k xs other r)
      ])
    ]

stays_there : (k : List (List ℕ)) (ms : List ModuleTree) (i : Import) (is : List Import) (b : Bool) → i.module ≢ k → has_name i.module (module_names ms) ≡ b → missing_import ms (i ∷ is) ≡ None → (missing_import ms is ≡ None → missing_import (without_module k ms) is ≡ None) → missing_import (without_module k ms) (i ∷ is) ≡ None
stays_there k ms i is true other e h rest =
    let t : is_missing ms i ≡ false = ap not e in
    let u : is_missing (without_module k ms) i ≡ false = ap not (name_stays i.module k ms other e) in
    rw u (rest (rw t at h))
stays_there k ms i is false other e h rest =
    let t : is_missing ms i ≡ true = ap not e in
    let some : Some i ≡ None = rw t at h in
    absurd (cc)

-- so imports of the other modules still exist
pub imports_stay : (k : List (List ℕ)) (ms : List ModuleTree) (is : List Import) → ((i : Import) → Contains is i → i.module ≢ k) → missing_import ms is ≡ None → missing_import (without_module k ms) is ≡ None
imports_stay k ms [] other h = refl
imports_stay k ms (i ∷ is) other h =
    stays_there k ms i is (has_name i.module (module_names ms)) (other i (Contains-head i is)) refl h (imports_stay k ms is (λ j p. other j (Contains-tail i is j p)))

-- ---- the module at its place

without_split : (k : List (List ℕ)) (before : List ModuleTree) (here : ModuleTree) (after : List ModuleTree) → dotted_eq k here.name ≡ true → has_name k (module_names before) ≡ false → without_module k (before ++ here ∷ after) ≡ before ++ after
without_split k [] here after t h = rw t refl
without_split k (x ∷ xs) here after t h =
    let p = or_parts (dotted_eq k x.name) (has_name k (module_names xs)) h in
    rw p.0 (ap (λ l. x ∷ l) (without_split k xs here after t p.1))

drop_split : {X : Type 0} (before : List X) (here : X) (after : List X) → drop (suc (length before)) (before ++ here ∷ after) ≡ after
drop_split [] here after = refl
drop_split (x ∷ xs) here after = drop_split xs here after

module _ (ms : List ModuleTree) (name : List (List ℕ)) (k : ℕ) (p : IsPlace ms name k) where
  pub place_within : k < length ms
  place_within = omega (arith, p.at, ap (λ (l : List ModuleTree). length l) p.is, length-append p.before (p.here ∷ p.after))

  pub place_is : (d : ModuleTree) → get_or ms k d ≡ p.here
  place_is d = (λ i. get_or (p.is i) (p.at i) d) ∙ get_or-append_seam p.before p.here p.after d

  pub place_there : Contains ms p.here
  place_there = (k, place_within, place_is p.here)

  pub place_named : p.here.name ≡ name
  place_named = sym ((dotted_eq-Decides name p.here.name).0 p.named)

  pub place_has : has_name name (module_names ms) ≡ true
  place_has = has_name-there name ms p.here place_there (sym place_named)

  pub place_removed : remove ms k ≡ without_module name ms
  place_removed =
      (λ i. remove (p.is i) (p.at i))
      ∙ (λ i. take-append_seam p.before (p.here ∷ p.after) i ++ drop_split p.before p.here p.after i)
      ∙ sym (without_split name p.before p.here p.after p.named p.first)
      ∙ ap (without_module name) (sym p.is)
