use Rattle.scrib_sweeping.specs.SweepingMonitors.{state_in}
use Rattle.scrib_sweeping.proofs.MonitorLemmas.{done_fresh}
use Rattle.scrib_sweeping.proofs.sweeping_monitor.SweepingMonitor.is_done.Goals as goal

pub returns-in-Some : goal.returns-in-Some
returns-in-Some c =
    λ done. done_fresh (state_in c.args.self.now) c.in-Some.list (c.args.self.now.covered c.in-Some.list c.in-Some.is) (c.is_done.ensures done)
