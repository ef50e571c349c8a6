use Rattle.std.proofs.Common.{ap, subst, sym}
use Rattle.std.specs.List.Sorted.{IsStrictlyIncreasing}
use Rattle.scrib_core.specs.Answers.{State}
use Rattle.scrib_labelled.specs.CheckedCores.{state_of}
use Rattle.scrib_sweeping.specs.StaleLists.{AreAmong, left_in}
use Rattle.scrib_sweeping.proofs.ListLemmas.{none_among, none_rise}
use Rattle.scrib_sweeping.proofs.MonitorLemmas.{of_list}
use Rattle.scrib_sweeping.proofs.StageLemmas.{taken_nothing}
use Rattle.scrib_sweeping.proofs.sweeping_monitor.SweepingMonitor.new.Goals as goal

pub invariant_of-result : goal.invariant_of-result
invariant_of-result c =
    let s = state_of c.new.result.monitor.core in
    record {
      rising = of_list IsStrictlyIncreasing c.none.result (subst IsStrictlyIncreasing (sym c.none.ensures) none_rise);
      covered = of_list (AreAmong s) c.none.result (none_among s (λ id. ap (λ (w : State). w.marks id) c.new.ensures.state) (left_in c.none.result));
    }

pub returns-clause-taken : goal.returns-clause-taken
returns-clause-taken c = taken_nothing _ c.new.ensures.names c.new.ensures.state c.none-2.ensures
