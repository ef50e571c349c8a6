-- The projections of a protocol, role by role.
use Rattle.std.proofs.Common.{◌≡◌, true, ℕ, zero, suc, ◌<◌, List, [], ◌∷◌, Option, Some, None, length, get_or, refl, sym, ap, arith}
use Rattle.std.proofs.lemmas.Bool.{and_parts, true≢false}
use Rattle.scrib_types.specs.declared.local.Local.{Local}
use Rattle.scrib_types.specs.LocalView.{local_of}
use Rattle.scrib_types.specs.Trees.{GlobalTree, LocalTree}
use Rattle.scrib_types.specs.Projection.{projection, widest}
use Rattle.scrib_types.specs.Same.{same_local-equal}
use Rattle.scrib_projection.specs.Projections.{is_this, are_projections}

is_this_some : (o : Option LocalTree) (l : LocalTree) → is_this o l ≡ true → o ≡ Some l
is_this_some None l h = absurd (true≢false (sym h))
is_this_some (Some k) l h = ap Some (same_local-equal k l h)

pub projections_length : (g : GlobalTree) (rs : List (List ℕ)) (ls : List Local) → are_projections g rs ls ≡ true → length rs ≡ length ls
projections_length g [] [] h = refl
projections_length g [] (k ∷ ls) h = absurd (true≢false (sym h))
projections_length g (s ∷ rs) [] h = absurd (true≢false (sym h))
projections_length g (s ∷ rs) (k ∷ ls) h =
    let p = and_parts (is_this (projection widest s g) (local_of k)) (are_projections g rs ls) h in ap suc (projections_length g rs ls p.1)

pub projection_at : (g : GlobalTree) (rs : List (List ℕ)) (ls : List Local) (i : ℕ) (r : List ℕ) (l : Local) → are_projections g rs ls ≡ true → i < length rs → projection widest (get_or rs i r) g ≡ Some (local_of (get_or ls i l))
projection_at g [] ls i r l h n = absurd (omega arith)
projection_at g (s ∷ rs) [] i r l h n = absurd (true≢false (sym h))
projection_at g (s ∷ rs) (k ∷ ls) zero r l h n =
    let p = and_parts (is_this (projection widest s g) (local_of k)) (are_projections g rs ls) h in is_this_some (projection widest s g) (local_of k) p.0
projection_at g (s ∷ rs) (k ∷ ls) (suc i) r l h n =
    let p = and_parts (is_this (projection widest s g) (local_of k)) (are_projections g rs ls) h in projection_at g rs ls i r l p.1 (omega arith)
