use Rattle.std.proofs.Common.{[]}
use Rattle.scrib_library.specs.Calls.{IsWorklist}
use Rattle.scrib_library.proofs.reaching.start_worklist.Given as goal

abbrev pub invariant-loop-entry : goal.invariant-loop-entry
invariant-loop-entry l = IsWorklist l.edited (l.yielded) l.reached.items l.waiting.items []
