-- The law of held arrivals over runs of the protocol.
use Rattle.std.proofs.Common.{◌↔◌, List, ◌++◌}
use Rattle.scrib_types.specs.declared.event.Event.{Event}
use Rattle.scrib_types.specs.Agreement.{Agreement}
use Rattle.scrib_types.specs.Permitted.{IsPermitted}
use Rattle.scrib_global.specs.Simulation.{IsJoinedRun}
use Rattle.scrib_holdback.specs.FalseAlarms.{IsPermittedInSomeOrder, IsExact}
use Rattle.scrib_holdback.specs.HeldRuns.{IsRunInSomeOrder, IsExactOverRuns}

module _ (a : Agreement) (exact : (log : List Event) → IsPermitted a log ↔ IsJoinedRun a log) where
  permitted_in_order : (log : List Event) → IsRunInSomeOrder a log → IsPermittedInSomeOrder a log
  permitted_in_order log (other, order, run) = (other, order, (exact other).1 run)

  run_in_order : (log : List Event) → IsPermittedInSomeOrder a log → IsRunInSomeOrder a log
  run_in_order log (other, order, permitted) = (other, order, (exact other).0 permitted)

  pub exact_over_runs : (arrivals released waiting : List Event) → IsExact a arrivals released waiting → IsExactOverRuns a arrivals released waiting
  exact_over_runs arrivals released waiting e = record {
    run = (
      λ run. run_in_order arrivals (e.permitted.0 ((exact (released ++ waiting)).1 run)),
      λ some. (exact (released ++ waiting)).0 (e.permitted.1 (permitted_in_order arrivals some)),
    );
    none_waits = λ some. e.none_waits (permitted_in_order arrivals some);
  }
