use Rattle.scrib_sweeping.proofs.StageLemmas.{takes_end}
use Rattle.scrib_sweeping.proofs.sweeping_monitor.SweepingMonitorEntryStage.finish.Goals as goal

pub returns-clause-ok : goal.returns-clause-ok
returns-clause-ok c = takes_end c.args.self.now c.sweep_rest.new.self c.sweep_rest.ensures
