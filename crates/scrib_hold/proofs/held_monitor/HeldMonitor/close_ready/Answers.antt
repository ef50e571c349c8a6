use Rattle.std.proofs.Common.{refl}
use Rattle.scrib_hold.proofs.ClosingLemmas.{ready_none}
use Rattle.scrib_hold.proofs.held_monitor.HeldMonitor.close_ready.Goals as goal

pub returns-then-is_empty-clause-ok : goal.returns-then-is_empty-clause-ok
returns-then-is_empty-clause-ok g c = ready_none g.S.ItemSink.carries g.S.ItemSink.gathered c.args.self.now (c.if-is_empty.ensures refl)
