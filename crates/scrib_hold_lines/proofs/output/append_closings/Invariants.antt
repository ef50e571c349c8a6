use Rattle.std.proofs.Common.{length}
use Rattle.scrib_hold_stage.specs.PendingClosings.{closings_in}
use Rattle.scrib_hold_lines.proofs.Passings.{ClosedSoFar}
use Rattle.scrib_hold_lines.proofs.output.append_closings.Given as goal

abbrev pub invariant-loop-closing : goal.invariant-loop-closing
invariant-loop-closing l = ClosedSoFar (closings_in l.fn.pending) (closings_in l.pending) l.fn.output.items l.output.items

abbrev pub decreases-loop-closing : goal.decreases-loop-closing
decreases-loop-closing l = length (closings_in l.pending)
