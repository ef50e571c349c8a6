-- A type with a projection on each role forms a protocol.
use Rattle.std.proofs.Common.{◌≡◌, ℕ, true, ◌&&◌, IsTrue, List, [], ◌∷◌, Option, Some, None, is_some, if◌then◌else◌, refl}
use Rattle.std.proofs.lemmas.Bool.{and_parts}
use Rattle.scrib_types.specs.declared.profile.Profile.{Profile}
use Rattle.scrib_types.specs.Trees.{GlobalTree, LocalTree}
use Rattle.scrib_types.specs.Projection.{projection}
use Rattle.scrib_types.specs.WellFormed.{well_formed, projects, is_protocol}
use Rattle.scrib_elaborate.specs.Sound.{is_sound}
use Rattle.scrib_project.specs.Faults.{first_without}
use Rattle.scrib_project.proofs.ProfileLemmas.{all_wider}

some_projects : (profile : Profile) (g : GlobalTree) (o : Option LocalTree) (r : List ℕ) (rs : List (List ℕ)) → ((first_without profile g rs ≡ None) → projects profile g rs ≡ true) → (if is_some o then first_without profile g rs else Some r) ≡ None → (is_some o && projects profile g rs) ≡ true
some_projects profile g None r rs h e = absurd (cc)
some_projects profile g (Some l) r rs h e = h e

pub all_project : (profile : Profile) (g : GlobalTree) (rs : List (List ℕ)) → first_without profile g rs ≡ None → projects profile g rs ≡ true
all_project profile g [] e = refl
all_project profile g (r ∷ rs) e = some_projects profile g (projection profile r g) r rs (all_project profile g rs) e

pub makes_protocol : (profile : Profile) (roles : List (List ℕ)) (g : GlobalTree) → IsTrue (is_sound roles g) → first_without profile g roles ≡ None → IsTrue (is_protocol roles g)
unfolding is_sound is_protocol
makes_protocol profile roles g sound all = λ i. sound i && all_wider profile g roles (all_project profile g roles all) i

pub is_well_formed : (roles : List (List ℕ)) (g : GlobalTree) → IsTrue (is_sound roles g) → well_formed roles g ≡ true
unfolding is_sound
is_well_formed roles g sound = (and_parts _ (well_formed roles g) sound).1
