use Rattle.std.proofs.Common.{◌+◌, ◌-◌, ◌≤◌, length, take}
use Rattle.scrib_library.specs.Calls.{IsWorklist}
use Rattle.scrib_library.proofs.reaching.reaching.Given as goal

abbrev pub invariant-loop-at : goal.invariant-loop-at
invariant-loop-at l =
    IsWorklist l.edited l.fn.entries.items l.reached.items l.waiting.items (take l.at l.reached.items) × (l.at ≤ length l.reached.items)

abbrev pub decreases-loop-at : goal.decreases-loop-at
decreases-loop-at l = length l.waiting.items + length l.waiting.items + (length l.reached.items - l.at)
