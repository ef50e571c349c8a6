use Rattle.std.proofs.Common.{◌∙◌, ◌++◌, ap, sym}
use Rattle.std.proofs.lemmas.Result.{on_ok_weaker}
use Rattle.scrib_labelled.specs.declared.labelled_monitor.LabelledMonitor.{LabelledMonitor}
use Rattle.scrib_held_labels.specs.declared.labelled_sink.LabelledSink.{LabelledSink}
use Rattle.scrib_held_labels.specs.WaitingLabels.{kept_at}
use Rattle.scrib_held_labels.proofs.SinkLemmas.{carries}
use Rattle.scrib_held_labels.proofs.labelled_sink.LabelledSink.carry_out.Goals as goal

pub returns-clause-ok : goal.returns-clause-ok
returns-clause-ok c =
    let monitor = ap (λ (s : LabelledSink). s.monitor) c.in_ok-meet.ensures in
    on_ok_weaker c.gather.result
    (λ h. carries c.args.self.now (record { waiting = c.meet.new.self.waiting; monitor = c.gather.new.self; met = c.meet.new.self.met })
    c.args.number c.args.item c.in-Some.kept _ c.take-2.new.self c.in_ok-take.field-0
    (sym c.take.ensures.found ∙ c.in-Some.is) (λ k. ap (λ (s : LabelledSink). kept_at s.waiting k) c.in_ok-meet.ensures ∙ c.take.ensures.rest k) c.label-label.ensures c.in_ok-take.ensures.ok c.in_ok-take.ensures.same
    (c.gather.ensures.same ∙ ap (λ (m : LabelledMonitor). record m { gathered = c.gather.new.self.gathered }) monitor)
    (h ∙ ap (λ (m : LabelledMonitor). m.gathered.bytes.items ++ m.text.items) monitor))
    c.gather.ensures.ok
