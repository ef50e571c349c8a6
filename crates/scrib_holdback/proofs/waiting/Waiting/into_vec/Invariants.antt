use Rattle.std.proofs.Common.{◌≡◌}
use Rattle.scrib_holdback.specs.Lanes.{waiting_items}
use Rattle.scrib_holdback.proofs.waiting.Waiting.into_vec.Given as goal

abbrev pub invariant-loop-slot : goal.invariant-loop-slot
invariant-loop-slot g l = l.items.items ≡ waiting_items l.yielded
