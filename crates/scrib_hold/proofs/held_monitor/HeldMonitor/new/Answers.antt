use Rattle.std.proofs.Common.{refl}
use Rattle.scrib_hold.proofs.MonitorLemmas.{taken_none}
use Rattle.scrib_hold.proofs.held_monitor.HeldMonitor.new.Goals as goal

pub returns-clause-taken : goal.returns-clause-taken
returns-clause-taken g c = taken_none c.args.bound _ c.new.ensures c.new-2.ensures refl
