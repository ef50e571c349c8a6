use Rattle.std.proofs.Common.{take}
use Rattle.std.specs.Option.{option_copied}
use Rattle.scrib_library.specs.Withdrawals.{IsFirstImporterOrNone}
use Rattle.scrib_library.proofs.removal.first_importer.Given as goal

abbrev pub invariant-loop-tree : goal.invariant-loop-tree
invariant-loop-tree l = IsFirstImporterOrNone (take l.tree-index l.modules) l.name (option_copied l.first)
