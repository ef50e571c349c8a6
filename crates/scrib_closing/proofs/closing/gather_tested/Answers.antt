use Rattle.std.proofs.Common.{◌∙◌, ◌++◌, [], ◌∷◌, Ok, Err, sym, ap}
use Rattle.std.proofs.lemmas.Result.{err_from_is_err_and, on_ok_weaker, on_err_weaker}
use Rattle.scrib_core.specs.declared.format.Format.TheVariants as format
use Rattle.scrib_core.specs.declared.step.Step.TheVariants.{Note}
use Rattle.scrib_core.specs.Held.{state_of}
use Rattle.scrib_core.specs.ReplyValues.{note_reply_of}
use Rattle.scrib_report.specs.ReplyTexts.{reply_text}
use Rattle.scrib_script_reader.specs.declared.item.Item.TheVariants as item
use Rattle.scrib_closing.proofs.ClosingLemmas.{carried_closed, carried_open, part_closed, part_none, plain_format}
use Rattle.scrib_closing.proofs.SendLemmas.{refused_stays, tested_completes, tested_stays}
use Rattle.scrib_closing.proofs.closing.gather_tested.Goals as goal

pub returns-in_err-add_noted-in-Ok-clause-err : goal.returns-in_err-add_noted-in-Ok-clause-err
returns-in_err-add_noted-in-Ok-clause-err c =
    let p = err_from_is_err_and c.from_residual.result c.from_residual.ensures.1 in
    rw p.1 (part_none c.args.format (item.Step format.Line (Note c.args.id c.args.event) ∷ []) (state_of c.args.core.now) c.args.gathered.now.bytes.items c.add_noted.new.self.bytes.items c.in_err-add_noted-in-Ok.ensures.err)

pub returns-in_err-add_noted-in-Err-clause-err : goal.returns-in_err-add_noted-in-Err-clause-err
returns-in_err-add_noted-in-Err-clause-err c =
    let p = err_from_is_err_and c.from_residual-in_err-add_noted-in-Err.result c.from_residual-in_err-add_noted-in-Err.ensures.1 in
    rw p.1 (part_none c.args.format (item.Step format.Line (Note c.args.id c.args.event) ∷ []) (state_of c.args.core.now) c.args.gathered.now.bytes.items c.add_noted-in-Err.new.self.bytes.items c.in_err-add_noted-in-Err.ensures.err)

pub returns-in_ok-add_noted-in-Err-clause-ok : goal.returns-in_ok-add_noted-in-Err-clause-ok
returns-in_ok-add_noted-in-Err-clause-ok c =
    let o = c.args.format in
    let step = Note c.args.id c.args.event in
    let r = note_reply_of c.args.id (Err c.in-Err.refusal) in
    let u = state_of c.note_and_test.new.self in
    carried_open o format.Line step r (state_of c.args.core.now) u c.args.gathered.now.bytes.items c.add_noted-in-Err.new.self.bytes.items c.in-Err.ensures.answered (refused_stays c.args.id c.args.event c.in-Err.refusal u)
    (c.in_ok-add_noted-in-Err.ensures.ok ∙ ap (λ f. c.args.gathered.now.bytes.items ++ reply_text f r) (sym (plain_format o)))

pub returns-then-not-complete-clause-ok : goal.returns-then-not-complete-clause-ok
returns-then-not-complete-clause-ok c =
    let o = c.args.format in
    let step = Note c.args.id c.args.event in
    let r = note_reply_of c.args.id (Ok c.in-Ok.field-0.noted) in
    let u = state_of c.note_and_test.new.self in
    let none = tested_stays c.args.id c.args.event c.in-Ok.field-0.noted u c.in-Ok.field-0.complete c.in-Ok.ensures.complete c.if-not-complete.true in
    carried_open o format.Line step r (state_of c.args.core.now) u c.args.gathered.now.bytes.items c.add_noted.new.self.bytes.items c.in-Ok.ensures.answered none
    (c.in_ok-add_noted-in-Ok.ensures.ok ∙ ap (λ f. c.args.gathered.now.bytes.items ++ reply_text f r) (sym (plain_format o)))

pub returns-else-not-complete-clause-ok : goal.returns-else-not-complete-clause-ok
returns-else-not-complete-clause-ok c =
    let o = c.args.format in
    let step = Note c.args.id c.args.event in
    let r = note_reply_of c.args.id (Ok c.in-Ok.field-0.noted) in
    let u = state_of c.note_and_test.new.self in
    let done = tested_completes c.args.id c.args.event c.in-Ok.field-0.noted u c.in-Ok.field-0.complete c.in-Ok.ensures.complete c.if-not-complete.false in
    let first = c.in_ok-add_noted-in-Ok.ensures.ok ∙ ap (λ f. c.args.gathered.now.bytes.items ++ reply_text f r) (sym (plain_format o)) in
    on_ok_weaker c.gather_close.result
    (λ k. carried_closed o format.Line step r (state_of c.args.core.now) u (state_of c.gather_close.new.core) c.args.id c.in-Ok.ensures.answered done c.args.gathered.now.bytes.items c.add_noted.new.self.bytes.items c.gather_close.new.gathered.bytes.items k.0 k.1 first
    (k.2 ∙ ap (λ f. c.add_noted.new.self.bytes.items ++ reply_text f k.0) (sym (plain_format o))))
    c.gather_close.ensures.ok

pub returns-else-not-complete-clause-err : goal.returns-else-not-complete-clause-err
returns-else-not-complete-clause-err c =
    let o = c.args.format in
    let step = Note c.args.id c.args.event in
    let r = note_reply_of c.args.id (Ok c.in-Ok.field-0.noted) in
    let u = state_of c.note_and_test.new.self in
    let done = tested_completes c.args.id c.args.event c.in-Ok.field-0.noted u c.in-Ok.field-0.complete c.in-Ok.ensures.complete c.if-not-complete.false in
    let first = c.in_ok-add_noted-in-Ok.ensures.ok ∙ ap (λ f. c.args.gathered.now.bytes.items ++ reply_text f r) (sym (plain_format o)) in
    on_err_weaker c.gather_close.result
    (λ same. part_closed o format.Line step r (state_of c.args.core.now) u (state_of c.gather_close.new.core) c.args.id c.in-Ok.ensures.answered done c.args.gathered.now.bytes.items c.add_noted.new.self.bytes.items c.gather_close.new.gathered.bytes.items c.gather_close.ensures.made first same)
    c.gather_close.ensures.err
