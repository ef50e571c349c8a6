use Rattle.std.proofs.Common.{take}
use Rattle.std.specs.List.{Contains}
use Rattle.scrib_tree.specs.declared.tree.Import.{Import}
use Rattle.scrib_library.specs.Affected.{names_now}
use Rattle.scrib_library.proofs.affected.imports_some.Given as goal

abbrev pub invariant-loop-import : goal.invariant-loop-import
invariant-loop-import l =
    (i : Import) → Contains (take l.import-index l.import-items) i → Contains (names_now l.names) i.module → ⊥
