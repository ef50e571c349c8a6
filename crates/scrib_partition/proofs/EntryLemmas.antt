-- Lists of entries in which each id has at most one.
use Rattle.std.proofs.Common.{◌≡◌, ◌≢◌, ℕ, ◌≤◌, Bool, true, false, cond, List, [], ◌∷◌, ◌++◌, length, Option, Some, None, nat_eq, refl, sym, ap, subst, ◌∙◌, arith}
use Rattle.std.specs.Prelude.{IsSome, filter}
use Rattle.std.specs.List.{IsDistinct, AllByRecursion}
use Rattle.std.specs.List.Sorted.{IsPermutation}
use Rattle.std.specs.Map.{lookup, set_value, remove_entry, keys_of}
use Rattle.std.specs.Cmp.{nat_eq_equiv}
use Rattle.std.proofs.lemmas.Bool.{true≢false, false≢true}
use Rattle.std.proofs.lemmas.Bool.Decides.{Decides-eqb}
use Rattle.std.proofs.lemmas.List.Sorted.{length_permutation, IsPermutation-refl, IsPermutation-sym, IsPermutation-trans, IsPermutation-cons, IsPermutation-map, IsPermutation-append_comm, IsPermutation-append_left, IsPermutation-to_front}
use Rattle.std.proofs.lemmas.Map.{NonePasses, lookup-none, lookup-set_value, lookup-remove_entry, keys-set_value, none_passes_from_lookup}
use Rattle.std.proofs.lemmas.Map.Entries.{none_past_head, lookup-filter-keys}
use Rattle.std.proofs.lemmas.Map.Keys.{IsDistinct-cons, IsDistinct-tail, IsDistinct-IsPermutation}

-- an id that passes the test of another has the same test
pub one : (id x y : ℕ) → nat_eq id x ≡ true → nat_eq id y ≡ nat_eq x y
one id x y t = ap (λ (n : ℕ). nat_eq n y) ((Decides-eqb id x).0 t)

-- the test of an id fails at another
pub apart : (i j : ℕ) → i ≢ j → nat_eq i j ≡ false
apart i j differ = by (nat_eq i j) refl
  where
    by : (b : Bool) → nat_eq i j ≡ b → b ≡ false
    by true e = absurd (differ ((Decides-eqb i j).0 e))
    by false e = refl

pub itself : (i : ℕ) → nat_eq i i ≡ true
itself i = (Decides-eqb i i).1 refl

module _ {X : Type 0} where
  abbrev pub Once : List (ℕ × X) → Type 0
  Once es = IsDistinct nat_eq (keys_of es)

  -- ---- an entry is taken out

  pub taken : (es : List (ℕ × X)) (id : ℕ) (v : X) → lookup (nat_eq id) es ≡ Some v → IsPermutation es ((id, v) ∷ remove_entry (nat_eq id) es)
  taken [] id v e = cc
  taken (d ∷ es) id v e = by (nat_eq id d.0) refl e (taken es id v)
    where
      by : (b : Bool) → nat_eq id d.0 ≡ b → cond b (Some d.1) (lookup (nat_eq id) es) ≡ Some v → (lookup (nat_eq id) es ≡ Some v → IsPermutation es ((id, v) ∷ remove_entry (nat_eq id) es))
          → IsPermutation (d ∷ es) ((id, v) ∷ cond b es (d ∷ remove_entry (nat_eq id) es))
      by true t e rest =
          let key : d.0 ≡ id = sym ((Decides-eqb id d.0).0 t) in
          let value : d.1 ≡ v = cc in
          let same : d ≡ (id, v) = λ j. (key j, value j) in
          subst (λ (x : ℕ × X). IsPermutation (d ∷ es) (x ∷ es)) same (IsPermutation-refl (d ∷ es))
      by false t e rest =
          IsPermutation-trans (d ∷ es) (d ∷ (id, v) ∷ remove_entry (nat_eq id) es) ((id, v) ∷ d ∷ remove_entry (nat_eq id) es)
          (IsPermutation-cons d es ((id, v) ∷ remove_entry (nat_eq id) es) (rest e))
          (IsPermutation-append_left (remove_entry (nat_eq id) es) (d ∷ (id, v) ∷ []) ((id, v) ∷ d ∷ []) (IsPermutation-append_comm (d ∷ []) ((id, v) ∷ [])))

  pub moved_once : (es fs : List (ℕ × X)) → IsPermutation es fs → Once es → Once fs
  moved_once es fs moved once = IsDistinct-IsPermutation nat_eq nat_eq_equiv.symm (keys_of es) (keys_of fs) (IsPermutation-map (λ (e : ℕ × X). e.0) es fs moved) once

  pub taken_once : (es rest : List (ℕ × X)) (id : ℕ) (v : X) → IsPermutation es ((id, v) ∷ rest) → Once es → Once rest
  taken_once es rest id v moved once = IsDistinct-tail nat_eq id (keys_of rest) (moved_once es ((id, v) ∷ rest) moved once)

  pub lookup_taken : (es : List (ℕ × X)) (id i : ℕ) → Once es → lookup (nat_eq i) (remove_entry (nat_eq id) es) ≡ cond (nat_eq id i) None (lookup (nat_eq i) es)
  lookup_taken es id i once = lookup-remove_entry nat_eq_equiv (nat_eq id) (one id) i es once

  -- ---- an entry is added

  none_of_keys : (es : List (ℕ × X)) (id : ℕ) → NonePasses (nat_eq id) es → AllByRecursion (λ (y : ℕ). nat_eq id y ≡ false) (keys_of es)
  none_of_keys [] id n = n
  none_of_keys (e ∷ es) id n = (n.0, none_of_keys es id n.1)

  pub pushed_once : (es : List (ℕ × X)) (id : ℕ) (v : X) → lookup (nat_eq id) es ≡ None → Once es → Once (es ++ (id, v) ∷ [])
  pushed_once es id v none once =
      moved_once ((id, v) ∷ es) (es ++ (id, v) ∷ []) (IsPermutation-sym (es ++ (id, v) ∷ []) ((id, v) ∷ es) (IsPermutation-to_front es (id, v)))
      (IsDistinct-cons nat_eq id (keys_of es) (none_of_keys es id (none_passes_from_lookup (nat_eq id) es none)) once)

  pub pushed_other : (es : List (ℕ × X)) (id i : ℕ) (v : X) → i ≢ id → lookup (nat_eq i) (es ++ (id, v) ∷ []) ≡ lookup (nat_eq i) es
  pushed_other [] id i v differ = ap (λ (b : Bool). cond b (Some v) None) (apart i id differ)
  pushed_other (d ∷ es) id i v differ = ap (λ (o : Option X). cond (nat_eq i d.0) (Some d.1) o) (pushed_other es id i v differ)

  pub pushed_itself : (es : List (ℕ × X)) (id : ℕ) (v : X) → lookup (nat_eq id) es ≡ None → lookup (nat_eq id) (es ++ (id, v) ∷ []) ≡ Some v
  pushed_itself [] id v none = ap (λ (b : Bool). cond b (Some v) None) (itself id)
  pushed_itself (d ∷ es) id v none = by (nat_eq id d.0) none (pushed_itself es id v)
    where
      by : (b : Bool) → cond b (Some d.1) (lookup (nat_eq id) es) ≡ None → (lookup (nat_eq id) es ≡ None → lookup (nat_eq id) (es ++ (id, v) ∷ []) ≡ Some v) → cond b (Some d.1) (lookup (nat_eq id) (es ++ (id, v) ∷ [])) ≡ Some v
      by true e rest = let n : Some d.1 ≡ None = e in cc
      by false e rest = rest e

  -- ---- an entry is replaced

  pub lookup_set : (es : List (ℕ × X)) (id i : ℕ) (w : X) → IsSome (lookup (nat_eq id) es) → lookup (nat_eq i) (set_value (nat_eq id) es w) ≡ cond (nat_eq id i) (Some w) (lookup (nat_eq i) es)
  lookup_set es id i w there = lookup-set_value nat_eq_equiv (nat_eq id) (one id) i w es there

  pub set_once : (es : List (ℕ × X)) (id : ℕ) (w : X) → Once es → Once (set_value (nat_eq id) es w)
  set_once es id w once = subst (IsDistinct nat_eq) (sym (keys-set_value (nat_eq id) es w)) once

  -- ---- the entries of some ids

  pub lookup_filter : (ids : ℕ → Bool) (es : List (ℕ × X)) (i : ℕ) → lookup (nat_eq i) (filter (λ (e : ℕ × X). ids e.0) es) ≡ cond (ids i) (lookup (nat_eq i) es) None
  lookup_filter ids es i = lookup-filter-keys (nat_eq i) ids (ids i) (λ k t. ap ids (sym ((Decides-eqb i k).0 t))) es

  some_of : (o : Option X) → IsSome o → (v : X) × (o ≡ Some v)
  some_of None h = absurd (false≢true h)
  some_of (Some v) h = (v, refl)

  -- where another list has each id of this one, this one is no longer
  pub fewer : (ps es : List (ℕ × X)) → Once ps → Once es → ((i : ℕ) → IsSome (lookup (nat_eq i) ps) → IsSome (lookup (nat_eq i) es)) → length ps ≤ length es
  fewer [] es apart_ps apart_es within = omega arith
  fewer (d ∷ ps) es apart_ps apart_es within =
      let v = some_of (lookup (nat_eq d.0) es) (within d.0 (subst IsSome (sym (ap (λ (b : Bool). cond b (Some d.1) (lookup (nat_eq d.0) ps)) (itself d.0))) refl)) in
      let moved = taken es d.0 v.0 v.1 in
      let long : length ((d.0, v.0) ∷ remove_entry (nat_eq d.0) es) ≡ length es = length_permutation es ((d.0, v.0) ∷ remove_entry (nat_eq d.0) es) moved in
      let gone : lookup (nat_eq d.0) ps ≡ None = lookup-none (nat_eq d.0) ps (none_past_head nat_eq_equiv d.0 d ps apart_ps (itself d.0)) in
      let rest : length ps ≤ length (remove_entry (nat_eq d.0) es) =
      fewer ps (remove_entry (nat_eq d.0) es) (IsDistinct-tail nat_eq d.0 (keys_of ps) apart_ps) (taken_once es (remove_entry (nat_eq d.0) es) d.0 v.0 moved apart_es) (λ i there. by i there gone (nat_eq d.0 i) refl) in
      omega (arith, rest, long)
    where
      by : (i : ℕ) → IsSome (lookup (nat_eq i) ps) → lookup (nat_eq d.0) ps ≡ None → (b : Bool) → nat_eq d.0 i ≡ b → IsSome (lookup (nat_eq i) (remove_entry (nat_eq d.0) es))
      by i there gone true t = absurd (none_there (lookup (nat_eq i) ps) (subst (λ (n : ℕ). lookup (nat_eq n) ps ≡ None) ((Decides-eqb d.0 i).0 t) gone) there)
        where
          none_there : (o : Option X) → o ≡ None → IsSome o → ⊥
          none_there None e h = false≢true h
          none_there (Some x) e h = cc
      by i there gone false t =
          subst IsSome (sym (lookup_taken es d.0 i apart_es ∙ ap (λ (b : Bool). cond b None (lookup (nat_eq i) es)) t))
          (within i (subst IsSome (sym (ap (λ (b : Bool). cond b (Some d.1) (lookup (nat_eq i) ps)) (apart i d.0 (λ same. true≢false (sym ((Decides-eqb d.0 i).1 (sym same)) ∙ t))))) there))
