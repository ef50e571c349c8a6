use Rattle.std.proofs.Common.{refl}
use Rattle.scrib_core.specs.declared.format.Format.TheVariants as format
use Rattle.scrib_core.specs.declared.step.Step.TheVariants.{Note}
use Rattle.scrib_script_reader.specs.declared.item.Item.TheVariants as item
use Rattle.scrib_labelled.specs.CheckedCores.{state_of}
use Rattle.scrib_labelled.specs.ExchangeLines.{exchange_label}
use Rattle.scrib_sweeping.specs.SweepingMonitors.{state_in}
use Rattle.scrib_sweeping.proofs.MonitorLemmas.{carried_none, list_kept, when_carried}
use Rattle.scrib_sweeping.proofs.sweeping_monitor.SweepingMonitor.note_line.Goals as goal

pub invariant_of-self-else-is_err : goal.invariant_of-self-else-is_err
invariant_of-self-else-is_err c =
    let old = c.args.self.now in
    let new = c.note_line-noted.new.self in
    let line = c.args.line in
    let carries = when_carried old.named new (exchange_label line) (item.Step format.Line (Note line.id line.event)) c.note_line-noted.result c.is_err.result c.is_err.ensures.value c.if-is_err.false c.note_line-noted.ensures.ok in
    record {
      rising = old.rising;
      covered = list_kept old.listed (state_in old) (state_of new.monitor.core) (carried_none old.named new (exchange_label line) (item.Step format.Line (Note line.id line.event)) refl carries) old.covered;
    }
