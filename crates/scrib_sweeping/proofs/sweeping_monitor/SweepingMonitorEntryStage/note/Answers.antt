use Rattle.std.proofs.lemmas.Result.{on_err_weaker, on_ok_weaker}
use Rattle.scrib_core.specs.declared.format.Format.TheVariants as format
use Rattle.scrib_core.specs.declared.step.Step.TheVariants.{Note}
use Rattle.scrib_script_reader.specs.declared.entry.Entry.TheVariants as entry
use Rattle.scrib_script_reader.specs.declared.item.Item.TheVariants as item
use Rattle.scrib_labelled.specs.ExchangeLines.{exchange_label}
use Rattle.scrib_sweeping.proofs.StageLemmas.{fails_entry, takes_item}
use Rattle.scrib_sweeping.proofs.sweeping_monitor.SweepingMonitorEntryStage.note.Goals as goal

pub returns-clause-ok : goal.returns-clause-ok
returns-clause-ok c =
    on_ok_weaker c.note_line.result
    (takes_item c.args.self.now c.sweep_before.new.self c.sweep_before.ensures c.note_line.new.self (exchange_label c.args.line) (item.Step format.Line (Note c.args.line.id c.args.line.event)) c.requires.numbers)
    c.note_line.ensures.ok

pub returns-clause-err : goal.returns-clause-err
returns-clause-err c =
    on_err_weaker c.note_line.result
    (fails_entry c.args.self.now c.sweep_before.new.self c.sweep_before.ensures c.note_line.new.self (exchange_label c.args.line) (entry.Item (item.Step format.Line (Note c.args.line.id c.args.line.event))))
    c.note_line.ensures.err
