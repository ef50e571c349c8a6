use Rattle.std.proofs.Common.{ℕ, List, sym, subst}
use Rattle.std.proofs.lemmas.Result.{on_ok_weaker}
use Rattle.scrib_sweep.specs.Sweeps.{AreStale}
use Rattle.scrib_reported.specs.Monitors.{state_in}
use Rattle.scrib_reported.proofs.SweepLemmas.{sweep_judges, sweep_stops}
use Rattle.scrib_reported.proofs.reporting_monitor.ReportingMonitor.push_sweep.Goals as goal

pub push_turns-requires : goal.push_turns-requires
push_turns-requires c = subst (λ (ids : List ℕ). AreStale (state_in c.args.self.now) ids) (sym c.as_slice-ids.ensures.value) c.in_ok-stale.ensures.listed

pub returns-then-not-branch-clause-ok : goal.returns-then-not-branch-clause-ok
returns-then-not-branch-clause-ok c = sweep_stops c.args.head c.args.self.now c.push_turns.new.self c.in_ok-push_turns.field-0 c.if-not-branch.true c.in_ok-push_turns.ensures.ok

pub returns-clause-ok : goal.returns-clause-ok
returns-clause-ok c =
    on_ok_weaker c.push_labelled_swept.result
    (sweep_judges c.args.head c.args.self.now c.push_turns.new.self c.push_labelled_swept.new.out c.in_ok-push_turns.field-0 c.as_slice-ids.result.now c.if-not-branch.false c.in_ok-push_turns.ensures.ok
    (c.in_ok-push_turns.ensures.fresh c.if-not-branch.false) (subst (λ (ids : List ℕ). AreStale (state_in c.args.self.now) ids) (sym c.as_slice-ids.ensures.value) c.in_ok-stale.ensures.listed))
    c.push_labelled_swept.ensures
