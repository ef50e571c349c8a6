-- The flat form of a protocol's meaning: bytes by which two protocols are compared (this project's own). No flat form
-- is a prefix of that of another meaning.
use Rattle.std.specs.Prelude.{ℕ, List, [], ◌∷◌, ◌++◌}
use Rattle.scrib_types.specs.Flat.{number_bytes, name_bytes, names_bytes, message_bytes}
use Rattle.scrib_types.specs.Agreement.{Agreement}
use Rattle.scrib_types.specs.Trees.{GlobalTree, GlobalEnd, GlobalVar, GlobalRec, Comm, Flight, GlobalBranches, NoBranch, Branch}

-- The number of a tree's form, and then its parts. Each branch follows a 1, and a 0 ends them.
abbrev mutual
  pub global_bytes : GlobalTree → List ℕ
  global_bytes GlobalEnd = 0 ∷ []
  global_bytes (GlobalVar n) = 1 ∷ number_bytes n
  global_bytes (GlobalRec g) = 2 ∷ global_bytes g
  global_bytes (Comm p q bs) = (3 ∷ name_bytes p) ++ (name_bytes q ++ branches_bytes bs)
  global_bytes (Flight p q j bs) = (4 ∷ name_bytes p) ++ (name_bytes q ++ (number_bytes j ++ branches_bytes bs))

  pub branches_bytes : GlobalBranches → List ℕ
  branches_bytes NoBranch = 0 ∷ []
  branches_bytes (Branch m g bs) = (1 ∷ message_bytes m) ++ (global_bytes g ++ branches_bytes bs)

-- the roles, and then the global type
unfoldable pub flat_form : Agreement → List ℕ
flat_form a = names_bytes a.roles ++ global_bytes a.global
