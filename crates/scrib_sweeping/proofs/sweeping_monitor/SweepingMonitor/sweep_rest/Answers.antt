use Rattle.scrib_sweeping.proofs.MonitorLemmas.{rests_nothing}
use Rattle.scrib_sweeping.proofs.sweeping_monitor.SweepingMonitor.sweep_rest.Goals as goal

pub returns-then-is_done : goal.returns-then-is_done
returns-then-is_done c = rests_nothing c.args.self.now (c.is_done.ensures c.if-is_done.true)
