use Rattle.std.proofs.Common.{vec_len}
use Rattle.scrib_hold.proofs.SinkLemmas.{ReleasedSoFar}
use Rattle.scrib_hold.proofs.taking.take_released.Given as goal

abbrev pub invariant-loop-noted : goal.invariant-loop-noted
invariant-loop-noted g l = ReleasedSoFar g.S.ItemSink.carries g.S.ItemSink.gathered l.fn.released.items l.released.items l.fn.sink l.sink

abbrev pub decreases-loop-noted : goal.decreases-loop-noted
decreases-loop-noted g l = vec_len l.released
