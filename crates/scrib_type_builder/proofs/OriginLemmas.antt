-- The last origin, by its index.
use Rattle.std.proofs.Common.{◌≡◌, ℕ, zero, suc, ◌+◌, true, false, List, [], ◌∷◌, length, get_or, slice_set, Option, Some, None, is_some, refl, sym, ap, ◌∙◌, arith}
use Rattle.std.proofs.lemmas.Bool.{false≢true}
use Rattle.scrib_type_builder.specs.declared.built_type.Origin.{Origin}
use Rattle.scrib_type_builder.specs.BuiltType.{with_origin}

with_origin_last : (o : Origin) (x j : Option Origin) → x ≡ j → is_some x ≡ true → Some o ∷ [] ≡ with_origin o (j ∷ [])
with_origin_last o x None e s = absurd (false≢true (sym (ap is_some e) ∙ s))
with_origin_last o x (Some i) e s = refl

kept_last : (o : Origin) (x j : Option Origin) → x ≡ j → is_some x ≡ false → j ∷ [] ≡ with_origin o (j ∷ [])
kept_last o x None e s = refl
kept_last o x (Some i) e s = absurd (false≢true (sym s ∙ ap is_some e))

pub with_origin_some : (o : Origin) (js : List (Option Origin)) (k : ℕ) (x : Option Origin) → length js ≡ k + 1 → x ≡ get_or js k x → is_some x ≡ true → slice_set js k (Some o) ≡ with_origin o js
with_origin_some o [] k x n e s = absurd (omega (arith, n))
with_origin_some o (j ∷ []) zero x n e s = with_origin_last o x j e s
with_origin_some o (j ∷ []) (suc k) x n e s = absurd (omega (arith, n))
with_origin_some o (j ∷ i ∷ js) zero x n e s = absurd (omega (arith, n))
with_origin_some o (j ∷ i ∷ js) (suc k) x n e s =
    ap (λ y. j ∷ y) (with_origin_some o (i ∷ js) k x (omega (arith, n)) e s)

pub with_origin_none : (o : Origin) (js : List (Option Origin)) (k : ℕ) (x : Option Origin) → length js ≡ k + 1 → x ≡ get_or js k x → is_some x ≡ false → js ≡ with_origin o js
with_origin_none o [] k x n e s = absurd (omega (arith, n))
with_origin_none o (j ∷ []) zero x n e s = kept_last o x j e s
with_origin_none o (j ∷ []) (suc k) x n e s = absurd (omega (arith, n))
with_origin_none o (j ∷ i ∷ js) zero x n e s = absurd (omega (arith, n))
with_origin_none o (j ∷ i ∷ js) (suc k) x n e s =
    ap (λ y. j ∷ y) (with_origin_none o (i ∷ js) k x (omega (arith, n)) e s)

pub with_origin_empty : (o : Origin) (js : List (Option Origin)) → length js ≡ 0 → js ≡ with_origin o js
with_origin_empty o [] n = refl
with_origin_empty o (j ∷ js) n = absurd (omega (arith, n))
