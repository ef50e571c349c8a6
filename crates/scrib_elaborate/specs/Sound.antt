-- What each elaborated protocol is (Honda, Yoshida and Carbone, POPL 2008; that each recursion is used, and
-- the bound on roles, are this project's own).
use Rattle.std.specs.Prelude.{ℕ, Bool, ◌&&◌, nat_le, List, length}
use Rattle.scrib_types.specs.Projection.{is_closed}
use Rattle.scrib_types.specs.Trees.{GlobalTree}
use Rattle.scrib_types.specs.WellFormed.{distinct_roles, well_formed}

-- at most 64 roles, all different, and a closed, well-formed global type of these roles
unfoldable pub is_sound : List (List ℕ) → GlobalTree → Bool
is_sound roles g = nat_le (length roles) 64 && distinct_roles roles && is_closed g && well_formed roles g
