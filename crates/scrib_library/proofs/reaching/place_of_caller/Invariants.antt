use Rattle.std.proofs.Common.{take}
use Rattle.std.specs.List.{Contains}
use Rattle.scrib_library.specs.declared.declared.Entry.{Entry}
use Rattle.scrib_library.specs.Calls.{DoesNotCall}
use Rattle.scrib_library.proofs.reaching.place_of_caller.Given as goal

abbrev pub invariant-loop-at : goal.invariant-loop-at
invariant-loop-at l = (e : Entry) → Contains (take l.at l.waiting) e → DoesNotCall e l.called
