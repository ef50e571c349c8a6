use Rattle.std.proofs.Common.{sym, subst}
use Rattle.std.proofs.lemmas.Result.{on_ok_weaker}
use Rattle.scrib_script_reader.specs.declared.entry.Entry.{Entry}
use Rattle.scrib_labelled.specs.NamedLines.{label_of}
use Rattle.scrib_labelled.specs.Stages.{TakesEntry}
use Rattle.scrib_sweeping.specs.SweepingMonitors.{SweptEntries, gathered_in}
use Rattle.scrib_sweeping.proofs.StageLemmas.{takes_item, takes_skipped}
use Rattle.scrib_sweeping.proofs.sweeping_monitor.SweepingMonitorEntryStage.take.Goals as goal

pub returns-in-Skipped-clause-ok : goal.returns-in-Skipped-clause-ok
returns-in-Skipped-clause-ok c =
    let old = c.args.self.now in
    let new = c.sweep_before.new.self in
    let label = label_of c.args.parts in
    subst (λ (e : Entry). TakesEntry SweptEntries gathered_in old new label e) (sym c.in-Skipped.is) (takes_skipped old new c.sweep_before.ensures label)

pub returns-in-Item-clause-ok : goal.returns-in-Item-clause-ok
returns-in-Item-clause-ok c =
    let old = c.args.self.now in
    let mid = c.sweep_before.new.self in
    let new = c.carry_out.new.self in
    let label = label_of c.args.parts in
    on_ok_weaker c.carry_out.result
    (λ h. subst (λ (e : Entry). TakesEntry SweptEntries gathered_in old new label e) (sym c.in-Item.is) (takes_item old mid c.sweep_before.ensures new label c.in-Item.item c.requires h))
    c.carry_out.ensures.ok
