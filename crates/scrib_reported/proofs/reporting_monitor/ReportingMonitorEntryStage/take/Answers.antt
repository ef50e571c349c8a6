use Rattle.std.proofs.Common.{sym, subst}
use Rattle.std.proofs.lemmas.Result.{on_err_weaker, on_ok_weaker}
use Rattle.scrib_script_reader.specs.declared.entry.Entry.{Entry}
use Rattle.scrib_reported.specs.Monitors.{RanEntries, gathered_by}
use Rattle.scrib_labelled.specs.NamedLines.{label_of}
use Rattle.scrib_labelled.specs.Stages.{TakesEntry}
use Rattle.scrib_reported.proofs.EntryLemmas.{fails_entry, takes_item, takes_skipped}
use Rattle.scrib_reported.proofs.reporting_monitor.ReportingMonitorEntryStage.take.Goals as goal

pub returns-in-Skipped-clause-ok : goal.returns-in-Skipped-clause-ok
returns-in-Skipped-clause-ok c =
    let old = c.args.self.now in
    let label = label_of c.args.parts in
    subst (λ (e : Entry). TakesEntry RanEntries gathered_by old old label e) (sym c.in-Skipped.is) (takes_skipped old label)

pub returns-in-Item-clause-ok : goal.returns-in-Item-clause-ok
returns-in-Item-clause-ok c =
    let old = c.args.self.now in
    let new = c.carry_out.new.self in
    let label = label_of c.args.parts in
    on_ok_weaker c.carry_out.result
    (λ h. subst (λ (e : Entry). TakesEntry RanEntries gathered_by old new label e) (sym c.in-Item.is) (takes_item old new label c.in-Item.item c.requires h))
    c.carry_out.ensures.ok

pub returns-in-Item-clause-err : goal.returns-in-Item-clause-err
returns-in-Item-clause-err c =
    on_err_weaker c.carry_out.result (fails_entry c.args.self.now c.carry_out.new.self (label_of c.args.parts) c.args.entry) c.carry_out.ensures.err
