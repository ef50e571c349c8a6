use Rattle.std.proofs.Common.{length}
use Rattle.scrib_hold_stage.specs.PendingClosings.{closings_in}
use Rattle.scrib_hold.proofs.SinkLemmas.{ClosedSoFar}
use Rattle.scrib_hold.proofs.taking.take_closings.Given as goal

abbrev pub invariant-loop-closing : goal.invariant-loop-closing
invariant-loop-closing g l = ClosedSoFar g.S.ItemSink.carries g.S.ItemSink.gathered (closings_in l.fn.pending) (closings_in l.pending) l.fn.sink l.sink

abbrev pub decreases-loop-closing : goal.decreases-loop-closing
decreases-loop-closing g l = length (closings_in l.pending)
