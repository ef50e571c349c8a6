use Rattle.scrib_reported.proofs.SweepLemmas.{AreTurning}
use Rattle.scrib_reported.proofs.reporting_monitor.ReportingMonitor.push_turns.Given as goal

abbrev pub invariant-loop-id : goal.invariant-loop-id
invariant-loop-id l = AreTurning l.head l.fn.self l.stale l.id-index l.self
