use Rattle.scrib_sweeping.proofs.MonitorLemmas.{sweeps_nothing}
use Rattle.scrib_sweeping.proofs.sweeping_monitor.SweepingMonitor.sweep_before.Goals as goal

pub returns-else-not-is_done : goal.returns-else-not-is_done
returns-else-not-is_done c = sweeps_nothing c.args.self.now (c.is_done.ensures c.if-not-is_done.false)
