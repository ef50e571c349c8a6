use Rattle.scrib_labelled.proofs.OutputLemmas.{takes_end}
use Rattle.scrib_labelled.proofs.named_monitor.NamedMonitorEntryStage.finish.Goals as goal

pub returns-clause-ok : goal.returns-clause-ok
returns-clause-ok c = takes_end c.args.self.now
