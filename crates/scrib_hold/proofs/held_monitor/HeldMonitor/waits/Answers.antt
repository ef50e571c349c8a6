use Rattle.std.proofs.Common.{inl, refl}
use Rattle.scrib_hold.proofs.MonitorLemmas.{none_waits, event_waits}
use Rattle.scrib_hold.proofs.held_monitor.HeldMonitor.waits.Goals as goal

pub returns-then-waits-clause-some : goal.returns-then-waits-clause-some
returns-then-waits-clause-some g c = λ yes. inl (event_waits c.args.self.now c.args.id (c.if-waits.ensures.yes refl))

pub returns-else-waits-clause-none : goal.returns-else-waits-clause-none
returns-else-waits-clause-none g c = λ no_. none_waits c.args.self.now c.args.id (c.if-waits.ensures.no refl) (c.has_of.ensures.none no_)
