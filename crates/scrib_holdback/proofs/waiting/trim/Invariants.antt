use Rattle.std.proofs.Common.{length}
use Rattle.scrib_holdback.specs.Lanes.{IsTrimmed}
use Rattle.scrib_holdback.proofs.waiting.trim.Given as goal

abbrev pub invariant-loop-slots : goal.invariant-loop-slots
invariant-loop-slots g l = IsTrimmed l.initial.slots.items l.slots.items

abbrev pub decreases-loop-slots : goal.decreases-loop-slots
decreases-loop-slots g l = length l.slots.items
