use Rattle.scrib_library.specs.Calls.{AreGathered}
use Rattle.scrib_library.proofs.reaching.in_order.Given as goal

abbrev pub invariant-loop-entry : goal.invariant-loop-entry
invariant-loop-entry l = AreGathered l.yielded l.sorted.items
