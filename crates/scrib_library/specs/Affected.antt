-- The modules whose protocols an edit can change.
-- Only contracts of private functions cite this file.
use Rattle.std.specs.Prelude.{ℕ, List, map, Contains}
use Rattle.scrib_tree.specs.declared.tree.ModuleTree.{ModuleTree}
use Rattle.scrib_tree.specs.declared.tree.Import.{Import}
use Rattle.scrib_library.specs.declared.name_filter.FilteredModule.{FilteredModule}
pub use Rattle.scrib_library.specs.NameFilter.{names_now}

-- the modules, without their filters
abbrev pub waiting_trees : List FilteredModule → List ModuleTree
waiting_trees ws = map (λ (w : FilteredModule). w.tree.now) ws

-- the module imports one of these names
pub record ImportsSome (names : List (List (List ℕ))) (m : ModuleTree) : Type 0 where
  pub by : Import
  pub imports : Contains m.imports by
  pub named : Contains names by.module

-- the least set of names with the edited module and, with each name, the modules that import it
pub record AreAffected (modules : List ModuleTree) (edited : List (List ℕ))
    (names : List (List (List ℕ))) : Type 0 where
  pub edited_itself : Contains names edited
  pub closed : (m : ModuleTree) → Contains modules m → ImportsSome names m → Contains names m.name
