-- The projections of a protocol, one role after the other.
use Rattle.std.proofs.Common.{◌≡◌, true, ℕ, zero, suc, ◌+◌, ◌<◌, List, [], ◌∷◌, ◌++◌, Option, Some, is_some, if◌then◌else◌, get_or, length, take, drop, refl, sym, ap, subst, ◌∙◌, add-one, arith}
use Rattle.std.proofs.lemmas.Bool.{and_parts, and_from, true≢false}
use Rattle.std.proofs.lemmas.List.{take_more}
use Rattle.scrib_types.specs.declared.local.Local.{Local}
use Rattle.scrib_types.specs.declared.profile.Profile.{Profile}
use Rattle.scrib_types.specs.LocalView.{local_of}
use Rattle.scrib_types.specs.Trees.{GlobalTree, LocalTree}
use Rattle.scrib_types.specs.Projection.{projection, widest}
use Rattle.scrib_types.specs.Same.{same_local-refl}
use Rattle.scrib_projection.specs.Projections.{is_this, are_projections}
use Rattle.scrib_project.specs.Faults.{first_without}
use Rattle.scrib_project.proofs.ProfileLemmas.{wider}

is_this_from : (o : Option LocalTree) (l : LocalTree) → o ≡ Some l → is_this o l ≡ true
is_this_from o l e = ap (λ x. is_this x l) e ∙ same_local-refl l

projections_more : (g : GlobalTree) (rs : List (List ℕ)) (ls : List Local) (r : List ℕ) (l : Local) → are_projections g rs ls ≡ true → projection widest r g ≡ Some (local_of l) → are_projections g (rs ++ r ∷ []) (ls ++ l ∷ []) ≡ true
projections_more g [] [] r l h e = and_from (is_this (projection widest r g) (local_of l)) true (is_this_from (projection widest r g) (local_of l) e) refl
projections_more g [] (k ∷ ls) r l h e = absurd (true≢false (sym h))
projections_more g (s ∷ rs) [] r l h e = absurd (true≢false (sym h))
projections_more g (s ∷ rs) (k ∷ ls) r l h e =
    let p = and_parts (is_this (projection widest s g) (local_of k)) (are_projections g rs ls) h in
    and_from (is_this (projection widest s g) (local_of k)) (are_projections g (rs ++ r ∷ []) (ls ++ l ∷ [])) p.0 (projections_more g rs ls r l p.1 e)

-- one iteration of the loop over a protocol's roles
pub projections_step : (profile : Profile) (g : GlobalTree) (rs : List (List ℕ)) (ls : List Local) (i : ℕ) (r : List ℕ) (l : Local) → i < length rs → r ≡ get_or rs i r → are_projections g (take i rs) ls ≡ true → projection profile r g ≡ Some (local_of l) → are_projections g (take (i + 1) rs) (ls ++ l ∷ []) ≡ true
projections_step profile g rs ls i r l n x v u =
    let more : take (i + 1) rs ≡ take i rs ++ r ∷ [] = take_more rs i r n ∙ ap (λ y. take i rs ++ y ∷ []) (sym x) in
    subst (λ y. are_projections g y (ls ++ l ∷ []) ≡ true) (sym more)
    (projections_more g (take i rs) ls r l v (wider profile r g (local_of l) u))

without_step' : (profile : Profile) (g : GlobalTree) (rs : List (List ℕ)) (i : ℕ) (r : List ℕ) (l : LocalTree) → i < length rs → r ≡ get_or rs i r → projection profile r g ≡ Some l → first_without profile g (drop i rs) ≡ first_without profile g (drop (suc i) rs)
without_step' profile g [] i r l n x u = absurd (omega arith)
without_step' profile g (s ∷ rs) zero r l n x u = ap (λ o. if is_some o then first_without profile g rs else Some s) (ap (λ y. projection profile y g) (sym x) ∙ u)
without_step' profile g (s ∷ rs) (suc i) r l n x u = without_step' profile g rs i r l (omega arith) x u

pub without_step : (profile : Profile) (g : GlobalTree) (rs : List (List ℕ)) (i : ℕ) (r : List ℕ) (l : LocalTree) → i < length rs → r ≡ get_or rs i r → projection profile r g ≡ Some l → first_without profile g (drop (i + 1) rs) ≡ first_without profile g (drop i rs)
without_step profile g rs i r l n x u = rw add-one (sym (without_step' profile g rs i r l n x u))
