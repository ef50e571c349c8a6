use Rattle.std.proofs.Common.{refl}
use Rattle.scrib_hold.proofs.MonitorLemmas.{none_left}
use Rattle.scrib_hold.proofs.held_monitor.HeldMonitor.has_left.Goals as goal

pub returns-else-has_met : goal.returns-else-has_met
returns-else-has_met g c = λ no_. none_left c.args.self.now c.args.id (c.if-has_met.ensures refl) (c.has_of.ensures.none no_)
