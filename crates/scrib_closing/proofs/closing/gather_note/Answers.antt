use Rattle.std.proofs.Common.{◌∙◌, ◌++◌, [], ◌∷◌, sym, ap}
use Rattle.std.proofs.lemmas.Result.{err_from_is_err_and}
use Rattle.scrib_core.specs.declared.format.Format.TheVariants as format
use Rattle.scrib_core.specs.declared.step.Step.TheVariants.{Note}
use Rattle.scrib_core.specs.Held.{state_of}
use Rattle.scrib_core.specs.ReplyValues.{note_reply_of}
use Rattle.scrib_report.specs.ReplyTexts.{reply_text}
use Rattle.scrib_script_reader.specs.declared.item.Item.TheVariants as item
use Rattle.scrib_closing.proofs.ClosingLemmas.{carried_open, part_none, plain_format}
use Rattle.scrib_closing.proofs.SendLemmas.{send_open}
use Rattle.scrib_closing.proofs.closing.gather_note.Goals as goal

pub returns-in_err-add_noted-clause-err : goal.returns-in_err-add_noted-clause-err
returns-in_err-add_noted-clause-err c =
    let p = err_from_is_err_and c.from_residual.result c.from_residual.ensures.1 in
    rw p.1 (part_none c.args.format (item.Step format.Line (Note c.args.id c.args.event) ∷ []) (state_of c.args.core.now) c.args.gathered.now.bytes.items c.add_noted.new.self.bytes.items c.in_err-add_noted.ensures.err)

pub returns-clause-ok : goal.returns-clause-ok
returns-clause-ok c =
    let o = c.args.format in
    let step = Note c.args.id c.args.event in
    let r = note_reply_of c.args.id c.note_event-noted.result in
    let u = state_of c.note_event-noted.new.self in
    let none = send_open c.args.id c.args.event c.note_event-noted.result (state_of c.args.core.now) u (sym c.is_send.ensures ∙ c.if-not-is_send.false) c.note_event-noted.ensures.answered in
    carried_open o format.Line step r (state_of c.args.core.now) u c.args.gathered.now.bytes.items c.add_noted.new.self.bytes.items c.note_event-noted.ensures.answered none
    (c.in_ok-add_noted.ensures.ok ∙ ap (λ f. c.args.gathered.now.bytes.items ++ reply_text f r) (sym (plain_format o)))
