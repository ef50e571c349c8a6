use Rattle.std.proofs.Common.{◌∙◌, ◌++◌, ap, sym}
use Rattle.std.proofs.lemmas.Result.{on_ok_weaker}
use Rattle.scrib_hold_labelled.specs.declared.line_sink.LineSink.{LineSink}
use Rattle.scrib_hold_labelled.specs.Sinks.{gathered_in}
use Rattle.scrib_hold_labelled.specs.WaitingLines.{kept_at}
use Rattle.scrib_hold_labelled.proofs.SinkLemmas.{carries}
use Rattle.scrib_hold_labelled.proofs.line_sink.LineSink.write.Goals as goal

pub returns-clause-ok : goal.returns-clause-ok
returns-clause-ok c = λ item.
    let same = c.in_ok-note_closing.ensures in
    on_ok_weaker c.add_bytes.result
    (λ h. carries c.args.self.now (record c.note_closing.new.self { gathered = c.add_bytes.new.self }) c.args.number c.in-Some.kept c.as_slice.result.now item
    (sym c.take.ensures.found ∙ c.in-Some.is) (λ k. ap (λ (s : LineSink). kept_at s.waiting k) same ∙ c.take.ensures.rest k) c.as_slice.ensures.value
    (h ∙ ap (λ (s : LineSink). gathered_in s ++ c.as_slice.result.now) same))
    c.add_bytes.ensures.ok
