use Rattle.std.proofs.Common.{take}
use Rattle.scrib_library.specs.Entries.{AreEntered}
use Rattle.scrib_library.proofs.declared.enter.Given as goal

abbrev pub invariant-loop-declaration : goal.invariant-loop-declaration
invariant-loop-declaration l =
    AreEntered l.tree l.is_declared l.fn.entries.items (take l.declaration-index l.declaration-items) l.entries.items
