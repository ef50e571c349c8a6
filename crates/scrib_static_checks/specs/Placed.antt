-- The place of a module that was put, and how the put is undone.
use Rattle.std.specs.Prelude.{◌≡◌, ℕ, ◌<◌, List, length, take, slice_set, slice_index_or, Option, Some, None}
use Rattle.scrib_tree.specs.declared.tree.ModuleTree.{ModuleTree}
use Rattle.scrib_static_checks.specs.declared.modules.Placed.{Placed}
use Rattle.scrib_static_checks.specs.Names.{with_module}

abbrev pub back_to : ℕ → Option ModuleTree → List ModuleTree → List ModuleTree
back_to at None modules = take at modules
back_to at (Some m) modules = slice_set modules at m

-- the modules with the module that was replaced, or without the last
abbrev pub undone : Placed → List ModuleTree → List ModuleTree
undone p modules = back_to p.at p.replaced modules

-- the module is at this place, instead of the one of its name, or at the end, and undoing that restores the old list
pub record IsModulePlaced (m : ModuleTree) (before after : List ModuleTree) (p : Placed) : Type 0 where
  pub put : after ≡ with_module m before
  pub within : p.at < length after
  pub there : (d : ModuleTree) → slice_index_or after p.at d ≡ m
  pub back : undone p after ≡ before
