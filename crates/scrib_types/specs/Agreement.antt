-- The meaning of a protocol: its roles, in declared order, and its global type.
use Rattle.std.specs.Prelude.{ℕ, List}
use Rattle.scrib_types.specs.Trees.{GlobalTree}

-- the roles of a protocol, in declared order, and its global type
pub record Agreement : Type 0 where
  pub roles : List (List ℕ)
  pub global : GlobalTree
