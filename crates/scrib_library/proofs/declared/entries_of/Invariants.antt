use Rattle.std.proofs.Common.{take}
use Rattle.scrib_library.specs.Affected.{names_now}
use Rattle.scrib_library.specs.Entries.{AreEntries}
use Rattle.scrib_library.proofs.declared.entries_of.Given as goal

abbrev pub invariant-loop-at : goal.invariant-loop-at
invariant-loop-at l = AreEntries (take l.at l.modules) (names_now l.affected) l.entries.items
