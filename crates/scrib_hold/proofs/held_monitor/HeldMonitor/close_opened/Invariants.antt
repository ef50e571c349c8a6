use Rattle.std.proofs.Common.{length}
use Rattle.scrib_hold_stage.specs.PendingClosings.{closings_in}
use Rattle.scrib_hold.proofs.ClosingLemmas.{IsForcing}
use Rattle.scrib_hold.proofs.held_monitor.HeldMonitor.close_opened.Given as goal

abbrev pub invariant-loop : goal.invariant-loop
invariant-loop g l = IsForcing g.S.ItemSink.carries g.S.ItemSink.gathered l.id l.initial.self l.self

abbrev pub decreases-loop : goal.decreases-loop
decreases-loop g l = length (closings_in l.self.pending)
