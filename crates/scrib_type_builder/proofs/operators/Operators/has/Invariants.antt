use Rattle.std.proofs.Common.{length}
use Rattle.scrib_type_builder.proofs.OperatorIndexLemmas.{IsPassed, place_of}
use Rattle.scrib_type_builder.proofs.operators.Operators.has.Given as goal

abbrev pub invariant-loop-next : goal.invariant-loop-next
invariant-loop-next l = IsPassed l.branches (length l.self.latest.items) l.op l.next

abbrev pub decreases-loop-next : goal.decreases-loop-next
decreases-loop-next l = place_of l.next
