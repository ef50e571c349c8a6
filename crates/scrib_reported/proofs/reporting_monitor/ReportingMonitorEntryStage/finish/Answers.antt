use Rattle.scrib_reported.proofs.EntryLemmas.{takes_end}
use Rattle.scrib_reported.proofs.reporting_monitor.ReportingMonitorEntryStage.finish.Goals as goal

pub returns-clause-ok : goal.returns-clause-ok
returns-clause-ok c = takes_end c.args.self.now
