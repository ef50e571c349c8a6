-- The projections of a protocol on its roles, under the reception profile. Where the plain profile has a projection, it
-- is the same.
use Rattle.std.specs.Prelude.{ℕ, Bool, true, false, ◌&&◌, List, [], ◌∷◌, Option, Some, None}
use Rattle.scrib_types.specs.declared.local.Local.{Local}
use Rattle.scrib_types.specs.LocalView.{local_of}
use Rattle.scrib_types.specs.Trees.{GlobalTree, LocalTree}
use Rattle.scrib_types.specs.Projection.{projection, widest}
use Rattle.scrib_types.specs.Same.{same_local}

-- the local type is defined, and is this one
abbrev pub is_this : Option LocalTree → LocalTree → Bool
is_this None l = false
is_this (Some k) l = same_local k l

-- one local type for each role, in order: its projection
abbrev pub are_projections : GlobalTree → List (List ℕ) → List Local → Bool
are_projections g [] [] = true
are_projections g [] (l ∷ ls) = false
are_projections g (r ∷ rs) [] = false
are_projections g (r ∷ rs) (l ∷ ls) = is_this (projection widest r g) (local_of l) && are_projections g rs ls
