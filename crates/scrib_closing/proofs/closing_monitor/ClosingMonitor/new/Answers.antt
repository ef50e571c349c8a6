use Rattle.std.proofs.Common.{refl}
use Rattle.scrib_closing.proofs.MonitorLemmas.{taken_none}
use Rattle.scrib_closing.proofs.closing_monitor.ClosingMonitor.new.Goals as goal

pub returns : goal.returns
returns c = taken_none c.args.format _ refl c.new.ensures
