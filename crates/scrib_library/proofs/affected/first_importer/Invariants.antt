use Rattle.std.proofs.Common.{take}
use Rattle.std.specs.List.{Contains}
use Rattle.scrib_tree.specs.declared.tree.ModuleTree.{ModuleTree}
use Rattle.scrib_library.specs.Affected.{names_now, waiting_trees, ImportsSome}
use Rattle.scrib_library.proofs.affected.first_importer.Given as goal

abbrev pub invariant-loop-at : goal.invariant-loop-at
invariant-loop-at l =
    (m : ModuleTree) → Contains (waiting_trees (take l.at l.waiting)) m → ImportsSome (names_now l.names) m → ⊥
