use Rattle.scrib_hold.proofs.MonitorLemmas.{count_is}
use Rattle.scrib_hold.proofs.held_monitor.HeldMonitor.entries_taken.Goals as goal

pub returns : goal.returns
returns g c = count_is c.args.self.now c.time.result c.time.ensures
