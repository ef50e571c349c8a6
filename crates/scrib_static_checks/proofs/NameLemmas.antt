-- Lists of different names, and protocols found by their names.
use Rattle.std.proofs.Common.{◌≡◌, ℕ, Bool, true, false, ◌&&◌, not, List, [], ◌∷◌, ◌++◌, map, None, refl, sym, ◌∙◌, ⊎_elim}
use Rattle.std.specs.Str.{bytes_eq}
use Rattle.std.proofs.lemmas.Slice.Eq.{bytes_eq-Decides}
use Rattle.std.proofs.lemmas.Bool.{false≢true, both_ways, and_parts, and_from, or_parts, or_from, or_cases, or_left, or_right, not-true, not_from_false}
use Rattle.std.proofs.lemmas.Bool.Decides.{same_from_decides, Decides-like}
use Rattle.std.proofs.lemmas.List.Folds.{list_any-append}
use Rattle.scrib_types.specs.WellFormed.{has_role, distinct_roles}
use Rattle.scrib_tree.specs.declared.tree.ModuleTree.{ModuleTree}
use Rattle.scrib_tree.specs.declared.tree.ProtocolDeclaration.{ProtocolDeclaration}
use Rattle.scrib_static_checks.specs.Names.{Declaration, dotted_eq, has_name, distinct_names, first_where, module_names, declarations, is_called, find_protocol}
pub use Rattle.scrib_static_checks.specs.Names.{dotted_eq-Decides}

pub bytes_eq-comm : (r s : List ℕ) → bytes_eq r s ≡ bytes_eq s r
bytes_eq-comm r s =
    same_from_decides (bytes_eq r s) (bytes_eq s r) (bytes_eq-Decides r s) (Decides-like (bytes_eq s r) (λ e. sym e) (λ e. sym e) (bytes_eq-Decides s r))

pub dotted_eq-comm : (r s : List (List ℕ)) → dotted_eq r s ≡ dotted_eq s r
dotted_eq-comm [] [] = refl
dotted_eq-comm [] (b ∷ s) = refl
dotted_eq-comm (a ∷ r) [] = refl
dotted_eq-comm (a ∷ r) (b ∷ s) = λ i. bytes_eq-comm a b i && dotted_eq-comm r s i

-- with a new name at the end
pub distinct_roles-push : (rs : List (List ℕ)) (r : List ℕ) → distinct_roles rs ≡ true → has_role r rs ≡ false → distinct_roles (rs ++ r ∷ []) ≡ true
distinct_roles-push [] r d h = refl
distinct_roles-push (s ∷ rs) r d h =
    let parts = and_parts (not (has_role s rs)) (distinct_roles rs) d in
    let apart = or_parts (bytes_eq r s) (has_role r rs) h in
    let other : has_role s (r ∷ []) ≡ false = or_from (bytes_eq s r) false (bytes_eq-comm s r ∙ apart.0) refl in
    let none : has_role s (rs ++ r ∷ []) ≡ false =
    list_any-append (bytes_eq s) rs (r ∷ []) ∙ or_from (has_role s rs) (has_role s (r ∷ [])) (not-true (has_role s rs) parts.0) other in
    and_from (not (has_role s (rs ++ r ∷ []))) (distinct_roles (rs ++ r ∷ [])) (not_from_false (has_role s (rs ++ r ∷ [])) none) (distinct_roles-push rs r parts.1 apart.1)

pub distinct_names-push : (rs : List (List (List ℕ))) (r : List (List ℕ)) → distinct_names rs ≡ true → has_name r rs ≡ false → distinct_names (rs ++ r ∷ []) ≡ true
distinct_names-push [] r d h = refl
distinct_names-push (s ∷ rs) r d h =
    let parts = and_parts (not (has_name s rs)) (distinct_names rs) d in
    let apart = or_parts (dotted_eq r s) (has_name r rs) h in
    let other : has_name s (r ∷ []) ≡ false = or_from (dotted_eq s r) false (dotted_eq-comm s r ∙ apart.0) refl in
    let none : has_name s (rs ++ r ∷ []) ≡ false =
    list_any-append (dotted_eq s) rs (r ∷ []) ∙ or_from (has_name s rs) (has_name s (r ∷ [])) (not-true (has_name s rs) parts.0) other in
    and_from (not (has_name s (rs ++ r ∷ []))) (distinct_names (rs ++ r ∷ [])) (not_from_false (has_name s (rs ++ r ∷ [])) none) (distinct_names-push rs r parts.1 apart.1)

-- a name that occurs once more
pub distinct_roles-again : (before : List (List ℕ)) (r : List ℕ) (after : List (List ℕ)) → has_role r before ≡ true → distinct_roles (before ++ r ∷ after) ≡ true → ⊥
distinct_roles-again [] r after h d = false≢true h
distinct_roles-again (s ∷ before) r after h d =
    let rest = before ++ r ∷ after in
    let parts = and_parts (not (has_role s rest)) (distinct_roles rest) d in
    let there : bytes_eq r s ≡ true → has_role s rest ≡ true =
    λ e. list_any-append (bytes_eq s) before (r ∷ after) ∙ or_right (has_role s before) (has_role s (r ∷ after)) (or_left (bytes_eq s r) (has_role s after) (bytes_eq-comm s r ∙ e)) in
    ⊎_elim (λ e. both_ways (has_role s rest) (not-true (has_role s rest) parts.0) (there e)) (λ e. distinct_roles-again before r after e parts.1) (or_cases (bytes_eq r s) (has_role r before) h)

pub distinct_names-again : (before : List (List (List ℕ))) (r : List (List ℕ)) (after : List (List (List ℕ))) → has_name r before ≡ true → distinct_names (before ++ r ∷ after) ≡ true → ⊥
distinct_names-again [] r after h d = false≢true h
distinct_names-again (s ∷ before) r after h d =
    let rest = before ++ r ∷ after in
    let parts = and_parts (not (has_name s rest)) (distinct_names rest) d in
    let there : dotted_eq r s ≡ true → has_name s rest ≡ true =
    λ e. list_any-append (dotted_eq s) before (r ∷ after) ∙ or_right (has_name s before) (has_name s (r ∷ after)) (or_left (dotted_eq s r) (has_name s after) (dotted_eq-comm s r ∙ e)) in
    ⊎_elim (λ e. both_ways (has_name s rest) (not-true (has_name s rest) parts.0) (there e)) (λ e. distinct_names-again before r after e parts.1) (or_cases (dotted_eq r s) (has_name r before) h)

-- no protocol is found in a module that does not exist

skip_module : (home : List (List ℕ)) (name : List ℕ) (m : ModuleTree) (ps : List ProtocolDeclaration) (rest : List Declaration) → dotted_eq home m.name ≡ false
    → first_where (is_called home name) (map (λ (p : ProtocolDeclaration). record { home = m; protocol = p }) ps ++ rest) ≡ first_where (is_called home name) rest
skip_module home name m [] rest e = refl
skip_module home name m (p ∷ ps) rest e =
    let d : Declaration = record { home = m; protocol = p } in
    let no : is_called home name d ≡ false = rw e (and_false (bytes_eq name p.name)) in
    rw no (skip_module home name m ps rest e)
  where
    and_false : (b : Bool) → (b && false) ≡ false
    and_false true = refl
    and_false false = refl

pub found_nowhere : (ms : List ModuleTree) (home : List (List ℕ)) (name : List ℕ) → has_name home (module_names ms) ≡ false → find_protocol ms home name ≡ None
found_nowhere [] home name h = refl
found_nowhere (m ∷ ms) home name h =
    let parts = or_parts (dotted_eq home m.name) (has_name home (module_names ms)) h in
    skip_module home name m m.protocols (declarations ms) parts.0 ∙ found_nowhere ms home name parts.1
