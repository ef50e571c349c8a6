use Rattle.scrib_reported.proofs.SweepLemmas.{IsTurning}
use Rattle.scrib_reported.proofs.reporting_monitor.ReportingMonitor.push_turns_of.Given as goal

abbrev pub invariant-loop-made : goal.invariant-loop-made
invariant-loop-made l = IsTurning l.head l.fn.self l.id l.made l.self
