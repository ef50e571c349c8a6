use Rattle.std.proofs.Common.{◌≡◌, ◌∙◌, false, sym}
use Rattle.scrib_labelled.specs.CheckedCores.{state_of}
use Rattle.scrib_labelled.specs.NamedLines.{label_of}
use Rattle.scrib_sweeping.specs.Edits.{is_edit}
use Rattle.scrib_sweeping.specs.SweepingMonitors.{state_in}
use Rattle.scrib_sweeping.proofs.MonitorLemmas.{carried_none, list_kept, when_carried}
use Rattle.scrib_sweeping.proofs.sweeping_monitor.SweepingMonitor.carry_out.Goals as goal

pub invariant_of-self : goal.invariant_of-self
invariant_of-self c =
    let old = c.args.self.now in
    let new = c.carry_out-carried.new.self in
    let other : is_edit c.args.item ≡ false = sym c.is_edit-edits.ensures ∙ c.if-edits.false in
    let carries = when_carried old.named new (label_of c.args.parts) c.args.item c.carry_out-carried.result c.is_err.result c.is_err.ensures.value c.if-is_err.false c.carry_out-carried.ensures.ok in
    record {
      rising = old.rising;
      covered = list_kept old.listed (state_in old) (state_of new.monitor.core) (carried_none old.named new (label_of c.args.parts) c.args.item other carries) old.covered;
    }
