-- Lists in the order of full names.
-- Only contracts of private functions cite this file.
use Rattle.std.specs.Prelude.{◌≡◌, ℕ, ◌<◌, ◌≤◌, List, length, slice_index_or, Contains, AllPairs}
use Rattle.std.specs.Ordering.{nat_cmp}
use Rattle.std.specs.declared.cmp.Ordering.{Ordering}
use Rattle.std.specs.declared.cmp.Ordering.TheVariants.{Less}
use Rattle.std.specs.Cmp.Lexicographic.{slice_cmp}
use Rattle.scrib_tree.specs.declared.tree.ModuleTree.{ModuleTree}
use Rattle.scrib_static_checks.specs.Names.{declarations, Declaration}
use Rattle.scrib_library.specs.Modules.{name_of}

-- dotted names compared part by part, and each part by its bytes
abbrev pub name_cmp : List (List ℕ) → List (List ℕ) → Ordering
name_cmp = slice_cmp (slice_cmp nat_cmp)

-- in that order, each name once
abbrev pub AreInOrder : List (List (List ℕ)) → Type 0
AreInOrder names = AllPairs (λ m n. name_cmp m n ≡ Less) names

-- the name is at this index
abbrev pub IsAt : List (List (List ℕ)) → List (List ℕ) → ℕ → Type 0
IsAt names name i = (i < length names) × ((d : List (List ℕ)) → slice_index_or names i d ≡ name)

-- the index after all lesser names and in front of all greater ones
abbrev pub IsGap : List (List (List ℕ)) → List (List ℕ) → ℕ → Type 0
IsGap names name i =
    (i ≤ length names) × ((k : ℕ) (d : List (List ℕ)) → k < i → name_cmp (slice_index_or names k d) name ≡ Less)
    × ((k : ℕ) (d : List (List ℕ)) → i ≤ k → k < length names → name_cmp name (slice_index_or names k d) ≡ Less)

-- the name of each declared protocol, in order
pub record AreDeclaredNames (modules : List ModuleTree) (names : List (List (List ℕ))) : Type 0 where
  pub sorted : AreInOrder names
  pub complete : (d : Declaration) → Contains (declarations modules) d → Contains names (name_of d)
