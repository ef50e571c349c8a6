-- Modules, their declared protocols and their imports.
use Rattle.std.proofs.Common.{◌≡◌, ◌≢◌, ℕ, ◌+◌, ◌<◌, ◌≤◌, Bool, true, false, not, ◌||◌, List, [], ◌∷◌, ◌++◌, length, get_or, take, drop, Some, None, ◌⊎◌, inl, inr, refl, sym, ap, ◌∙◌, subst, arith}
use Rattle.std.specs.List.{Contains}
use Rattle.std.proofs.lemmas.Bool.{false≢true}
use Rattle.std.proofs.lemmas.List.{take_more, drop_more, take_all}
use Rattle.std.proofs.lemmas.List.Elements.{Contains-append_left, Contains-append_right, Contains-append_cases}
use Rattle.std.proofs.lemmas.List.Sums.{sum_by-take-le, sum_by_push}
use Rattle.scrib_tree.specs.declared.tree.ModuleTree.{ModuleTree}
use Rattle.scrib_tree.specs.declared.tree.Import.{Import}
use Rattle.scrib_tree.specs.declared.tree.ProtocolDeclaration.{ProtocolDeclaration}
use Rattle.scrib_static_checks.specs.Names.{Declaration, dotted_eq, has_name, first_where, module_names, with_module, declared_in, declarations}
use Rattle.scrib_static_checks.proofs.NameLemmas.{dotted_eq-Decides}
use Rattle.scrib_library.specs.Modules.{is_missing, missing_import, protocol_count}
use Rattle.scrib_library.proofs.Lists.{Contains-nil, Contains-head, Contains-head_at, Contains-tail, Contains-cases, Contains-map, Contains-map_back}

pub either : (b : Bool) → (b ≡ true) ⊎ (b ≡ false)
either true = inl refl
either false = inr refl

pub or_right : (b c : Bool) → c ≡ true → (b || c) ≡ true
or_right true c h = refl
or_right false c h = h

pub or_cases : (b c : Bool) → (b || c) ≡ true → (b ≡ true) ⊎ (c ≡ true)
or_cases true c h = inl refl
or_cases false c h = inr h

-- ---- names of modules

pub has_name-there : (n : List (List ℕ)) (ms : List ModuleTree) (m : ModuleTree) → Contains ms m → n ≡ m.name → has_name n (module_names ms) ≡ true
has_name-there n [] m p e = absurd (Contains-nil m p)
has_name-there n (x ∷ xs) m p e =
    elim (Contains-cases x xs m p) [
      | inl xm ↦ (let t : dotted_eq n x.name ≡ true = (dotted_eq-Decides n x.name).1 (e ∙ sym (ap (λ (y : ModuleTree). y.name) xm)) in rw t refl)
      | inr q ↦ or_right (dotted_eq n x.name) (has_name n (module_names xs)) (has_name-there n xs m q e)
    ]

has_name-push : (n : List (List ℕ)) (ms : List ModuleTree) (m : ModuleTree) → has_name n (module_names ms) ≡ false → dotted_eq n m.name ≡ false → has_name n (module_names (ms ++ m ∷ [])) ≡ false
has_name-push n [] m h e = rw e refl
has_name-push n (x ∷ xs) m h e = by (dotted_eq n x.name) h (has_name-push n xs m)
  where
    by : (b : Bool) → (b || has_name n (module_names xs)) ≡ false → (has_name n (module_names xs) ≡ false → dotted_eq n m.name ≡ false → has_name n (module_names (xs ++ m ∷ [])) ≡ false) → (b || has_name n (module_names (xs ++ m ∷ []))) ≡ false
    by true g rest = absurd (false≢true (sym g))
    by false g rest = rest g e

-- the case of one more module of another name
pub has_name-more : (n : List (List ℕ)) (ms : List ModuleTree) (i : ℕ) (m : ModuleTree) → i < length ms → m ≡ get_or ms i m → has_name n (module_names (take i ms)) ≡ false → n ≢ m.name → has_name n (module_names (take (i + 1) ms)) ≡ false
has_name-more n ms i m lt at h other =
    let no : dotted_eq n m.name ≡ false = not_true (dotted_eq n m.name) (λ t. other ((dotted_eq-Decides n m.name).0 t)) in
    ap (λ l. has_name n (module_names l)) (take_more ms i m lt ∙ ap (λ x. take i ms ++ x ∷ []) (sym at)) ∙ has_name-push n (take i ms) m h no
  where
    not_true : (b : Bool) → (b ≡ true → ⊥) → b ≡ false
    not_true true g = absurd (g refl)
    not_true false g = refl

-- ---- imports

module _ (ms : List ModuleTree) where
  pub missing_here : (is : List Import) (k : ℕ) (i : Import) → k < length is → i ≡ get_or is k i → has_name i.module (module_names ms) ≡ false → missing_import ms (drop k is) ≡ Some i
  missing_here is k i lt at h =
      ap (missing_import ms) (drop_more is k i lt ∙ ap (λ x. x ∷ drop (k + 1) is) (sym at)) ∙ (let t : is_missing ms i ≡ true = ap not h in rw t refl)

  pub missing_later : (is : List Import) (k : ℕ) (i : Import) → k < length is → i ≡ get_or is k i → has_name i.module (module_names ms) ≡ true → missing_import ms (drop k is) ≡ missing_import ms (drop (k + 1) is)
  missing_later is k i lt at h =
      ap (missing_import ms) (drop_more is k i lt ∙ ap (λ x. x ∷ drop (k + 1) is) (sym at)) ∙ (let t : is_missing ms i ≡ false = ap not h in rw t refl)

-- ---- a module in its place

pub with_module-itself : (m : ModuleTree) (ms : List ModuleTree) → Contains (with_module m ms) m
with_module-itself m [] = Contains-head m []
with_module-itself m (n ∷ ns) =
    elim (either (dotted_eq m.name n.name)) [
      | inl h ↦ rw h (Contains-head m ns)
      | inr h ↦ rw h (Contains-tail n (with_module m ns) m (with_module-itself m ns))
    ]

pub with_module-cases : (m : ModuleTree) (ms : List ModuleTree) (t : ModuleTree) → Contains (with_module m ms) t → (m ≡ t) ⊎ Contains ms t
with_module-cases m [] t p = Contains-cases m [] t p
with_module-cases m (n ∷ ns) t p =
    elim (either (dotted_eq m.name n.name)) [
      | inl h ↦ elim (Contains-cases m ns t (rw h at p)) [ inl e ↦ inl e | inr q ↦ inr (Contains-tail n ns t q) ]
      | inr h ↦ elim (Contains-cases n (with_module m ns) t (rw h at p)) [
        | inl e ↦ inr (Contains-head_at n ns t e)
        | inr q ↦ elim (with_module-cases m ns t q) [ inl e ↦ inl e | inr r ↦ inr (Contains-tail n ns t r) ]
      ]
    ]

-- no module's name is lost
names_kept : (n : List (List ℕ)) (m : ModuleTree) (ms : List ModuleTree) → has_name n (module_names ms) ≡ true → has_name n (module_names (with_module m ms)) ≡ true
names_kept n m [] h = absurd (false≢true h)
names_kept n m (x ∷ xs) h =
    elim (either (dotted_eq m.name x.name)) [
      | inl t ↦ rw t (rw (ap (dotted_eq n) ((dotted_eq-Decides m.name x.name).0 t)) h)
      | inr t ↦ rw t (elim (or_cases (dotted_eq n x.name) (has_name n (module_names xs)) h) [
        | inl e ↦ rw e refl
        | inr e ↦ or_right (dotted_eq n x.name) (has_name n (module_names (with_module m xs))) (names_kept n m xs e)
      ])
    ]

still_there : (m : ModuleTree) (ms : List ModuleTree) (i : Import) (is : List Import) (b : Bool) → has_name i.module (module_names ms) ≡ b → missing_import ms (i ∷ is) ≡ None → (missing_import ms is ≡ None → missing_import (with_module m ms) is ≡ None) → missing_import (with_module m ms) (i ∷ is) ≡ None
still_there m ms i is true e h rest =
    let t : is_missing ms i ≡ false = ap not e in
    let u : is_missing (with_module m ms) i ≡ false = ap not (names_kept i.module m ms e) in
    rw u (rest (rw t at h))
still_there m ms i is false e h rest =
    let t : is_missing ms i ≡ true = ap not e in
    let some : Some i ≡ None = rw t at h in
    absurd (cc)

-- so imports that existed still exist
pub imports_kept : (m : ModuleTree) (ms : List ModuleTree) (is : List Import) → missing_import ms is ≡ None → missing_import (with_module m ms) is ≡ None
imports_kept m ms [] h = refl
imports_kept m ms (i ∷ is) h = still_there m ms i is (has_name i.module (module_names ms)) refl h (imports_kept m ms is)

-- ---- declared protocols

pub declared-back : (ms : List ModuleTree) (d : Declaration) → Contains (declarations ms) d → Contains ms d.home × Contains d.home.protocols d.protocol
declared-back [] d p = absurd (Contains-nil d p)
declared-back (m ∷ ms) d p =
    elim (Contains-append_cases (declared_in m m.protocols) (declarations ms) d p) [
      | inl q ↦ (
          let r = Contains-map_back (λ (x : ProtocolDeclaration). record { home = m; protocol = x }) m.protocols d q in
          let P : Declaration → Type 0 = λ x. Contains (m ∷ ms) x.home × Contains x.home.protocols x.protocol in
          subst P r.2 (Contains-head m ms, r.1))
      | inr q ↦ (let r = declared-back ms d q in (Contains-tail m ms d.home r.0, r.1))
    ]

pub declared-there : (ms : List ModuleTree) (m : ModuleTree) (p : ProtocolDeclaration) → Contains ms m → Contains m.protocols p → Contains (declarations ms) (record { home = m; protocol = p })
declared-there [] m p h q = absurd (Contains-nil m h)
declared-there (x ∷ xs) m p h q =
    elim (Contains-cases x xs m h) [
      | inl e ↦ (
          let P : ModuleTree → Type 0 = λ y. Contains (declared_in y y.protocols ++ declarations xs) (record { home = m; protocol = p }) in
          subst P (sym e) (Contains-append_left (declared_in m m.protocols) (declarations xs) (record { home = m; protocol = p }) (Contains-map (λ (z : ProtocolDeclaration). record { home = m; protocol = z }) m.protocols p q)))
      | inr r ↦ Contains-append_right (declared_in x x.protocols) (declarations xs) (record { home = m; protocol = p }) (declared-there xs m p r q)
    ]

first_step : {X : Type 0} (test : X → Bool) (x y : X) (xs : List X) (b : Bool) → test x ≡ b → first_where test (x ∷ xs) ≡ Some y → (first_where test xs ≡ Some y → Contains xs y × (test y ≡ true)) → Contains (x ∷ xs) y × (test y ≡ true)
first_step test x y xs true h e rest =
    let some : Some x ≡ Some y = rw h at e in
    let same : x ≡ y = cc in
    (Contains-head_at x xs y same, ap test (sym same) ∙ h)
first_step test x y xs false h e rest = let r = rest (rw h at e) in (Contains-tail x xs y r.0, r.1)

pub first-there : {X : Type 0} (test : X → Bool) (xs : List X) (y : X) → first_where test xs ≡ Some y → Contains xs y × (test y ≡ true)
first-there test [] y e = cc
first-there test (x ∷ xs) y e = first_step test x y xs (test x) refl e (first-there test xs y)

-- ---- how many

pub count_more : (ms : List ModuleTree) (i left : ℕ) (m : ModuleTree) → i < length ms → m ≡ get_or ms i m → left + protocol_count (take i ms) ≡ 1024 → length m.protocols ≤ left → (k : ℕ) → k + length m.protocols ≡ left → k + protocol_count (take (i + 1) ms) ≡ 1024
count_more ms i left m lt at h le k e =
    let more : protocol_count (take (i + 1) ms) ≡ protocol_count (take i ms) + length m.protocols =
    ap protocol_count (take_more ms i m lt ∙ ap (λ x. take i ms ++ x ∷ []) (sym at)) ∙ sum_by_push (λ (t : ModuleTree). length t.protocols) (take i ms) m in
    omega (arith, more, h, e)

pub count_over : (ms : List ModuleTree) (i left : ℕ) (m : ModuleTree) → i < length ms → m ≡ get_or ms i m → left + protocol_count (take i ms) ≡ 1024 → left < length m.protocols → 1024 < protocol_count ms
count_over ms i left m lt at h le =
    let more : protocol_count (take (i + 1) ms) ≡ protocol_count (take i ms) + length m.protocols =
    ap protocol_count (take_more ms i m lt ∙ ap (λ x. take i ms ++ x ∷ []) (sym at)) ∙ sum_by_push (λ (t : ModuleTree). length t.protocols) (take i ms) m in
    omega (arith, more, h, le, sum_by-take-le (λ (t : ModuleTree). length t.protocols) ms (i + 1))

pub count_all : (ms : List ModuleTree) (i left : ℕ) → length ms ≤ i → left + protocol_count (take i ms) ≡ 1024 → protocol_count ms ≤ 1024
count_all ms i left le h = omega (arith, h, ap protocol_count (take_all i ms le))
