-- A projection under any profile is also one where receptions merge.
use Rattle.std.proofs.Common.{◌≡◌, ℕ, true, List, [], ◌∷◌, Option, Some, None, is_some, refl, ap}
use Rattle.std.proofs.lemmas.Bool.{and_parts, and_from}
use Rattle.scrib_types.specs.declared.profile.Profile.{Profile}
use Rattle.scrib_types.specs.declared.profile.Profile.TheVariants.{Plain, Reception}
use Rattle.scrib_types.specs.Trees.{GlobalTree, LocalTree}
use Rattle.scrib_types.specs.Projection.{projection}
use Rattle.scrib_types.specs.Profiles.{keeps_plain_projections}
use Rattle.scrib_types.specs.WellFormed.{projects}

pub wider : (profile : Profile) (r : List ℕ) (g : GlobalTree) (l : LocalTree) → projection profile r g ≡ Some l → projection Reception r g ≡ Some l
wider Plain r g l e = keeps_plain_projections r g l e
wider Reception r g l e = e

some_wider : (o u : Option LocalTree) → ((l : LocalTree) → o ≡ Some l → u ≡ Some l) → is_some o ≡ true → is_some u ≡ true
some_wider None u h e = absurd (cc)
some_wider (Some l) u h e = ap is_some (h l refl)

pub all_wider : (profile : Profile) (g : GlobalTree) (rs : List (List ℕ)) → projects profile g rs ≡ true → projects Reception g rs ≡ true
all_wider profile g [] h = refl
all_wider profile g (r ∷ rs) h =
    let p = and_parts (is_some (projection profile r g)) (projects profile g rs) h in
    and_from (is_some (projection Reception r g)) (projects Reception g rs) (some_wider (projection profile r g) (projection Reception r g) (λ l e. wider profile r g l e) p.0) (all_wider profile g rs p.1)
