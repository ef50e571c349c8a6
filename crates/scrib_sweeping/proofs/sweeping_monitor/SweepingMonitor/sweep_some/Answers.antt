use Rattle.std.proofs.Common.{◌∙◌, true, ap}
use Rattle.std.specs.List.Sorted.{IsStrictlyIncreasing}
use Rattle.scrib_sweep.specs.Sweeps.{IsSweptSome}
use Rattle.scrib_labelled.specs.CheckedCores.{state_of}
use Rattle.scrib_sweeping.specs.declared.sweep_counts.SweepCounts.{SweepCounts}
use Rattle.scrib_sweeping.specs.StaleLists.{AreAmong, left_in}
use Rattle.scrib_sweeping.specs.SweepingMonitors.{state_in}
use Rattle.scrib_sweeping.specs.SweptRuns.{with_sweep}
use Rattle.scrib_sweeping.specs.SweptScripts.{capped}
use Rattle.scrib_sweeping.proofs.ListLemmas.{among_of}
use Rattle.scrib_sweeping.proofs.MonitorLemmas.{left_covers, of_list, same_but, sweeps_listed, sweeps_unlisted, swept_as}
use Rattle.scrib_sweeping.proofs.sweeping_monitor.SweepingMonitor.sweep_some.Goals as goal

pub returns-in_default : goal.returns-in_default
returns-in_default c =
    sweeps_unlisted c.args.self.now _ c.take_list.ensures.named (c.count.ensures ∙ ap (λ (k : SweepCounts). capped (with_sweep k 0 true)) c.take_list.ensures.counts)

pub invariant_of-self-2 : goal.invariant_of-self-2
invariant_of-self-2 c =
    let old = c.args.self.now in
    let list = c.in-Some.list in
    let rest = c.leave_from.new.self in
    let p = c.sweep_some-judged.result in
    let t = state_of c.sweep_some-judged.new.self.core in
    let swept : IsSweptSome (state_in old) (left_in list) p t = swept_as old.named c.take_list.new.self.named (left_in list) c.left.result.now p t c.take_list.ensures.named c.left.ensures c.sweep_some-judged.ensures.swept in
    let covers = left_covers (state_in old) t (left_in list) p c.copied-first.result (left_in rest) c.in-Some.ensures.covers swept (c.copied-first.ensures ∙ c.first.ensures.value) c.leave_from.ensures.none c.leave_from.ensures.some in
    record {
      rising = of_list IsStrictlyIncreasing rest covers.rise;
      covered = of_list (AreAmong t) rest (among_of t (left_in rest) covers);
    }

pub returns : goal.returns
returns c =
    let old = c.args.self.now in
    let list = c.in-Some.list in
    let p = c.sweep_some-judged.result in
    let t = state_of c.sweep_some-judged.new.self.core in
    let swept : IsSweptSome (state_in old) (left_in list) p t = swept_as old.named c.take_list.new.self.named (left_in list) c.left.result.now p t c.take_list.ensures.named c.left.ensures c.sweep_some-judged.ensures.swept in
    sweeps_listed old _ (left_in list) p swept (c.count-2.ensures ∙ ap (λ (k : SweepCounts). capped (with_sweep k p.judged p.refused)) c.take_list.ensures.counts)
    (same_but old.named c.take_list.new.self.named c.sweep_some-judged.new.self c.take_list.ensures.named c.sweep_some-judged.ensures.same)
