use Rattle.std.proofs.Common.{◌++◌, ◌∙◌, Ok, Err, Result, sym, ap}
use Rattle.std.specs.Prelude.{IfOk}
use Rattle.scrib_core.specs.Held.{state_of}
use Rattle.scrib_core.specs.ReplyValues.{note_reply_of}
use Rattle.scrib_core.specs.declared.format.Format.TheVariants as format
use Rattle.scrib_core.specs.declared.reply.Reply.{Reply}
use Rattle.scrib_labelled.specs.declared.checked_core.CheckedCore.{CheckedCore}
use Rattle.scrib_labelled.specs.CheckedCores as checked
use Rattle.scrib_core.specs.declared.step.Step.TheVariants.{Note}
use Rattle.scrib_labelled.specs.Changes.{put_back_in_text}
use Rattle.scrib_report.specs.LabelledReplies.{labelled_reply}
use Rattle.scrib_report.specs.PutBack.{ReplyLabel, bytes_of}
use Rattle.scrib_closing.proofs.SendLemmas.{refused_stays, tested_completes, tested_stays}
use Rattle.scrib_labelled.proofs.ItemLemmas.{behind_none, closes_not_off, notes_closed, notes_open}
use Rattle.scrib_labelled.proofs.labelled_monitor.LabelledMonitor.note_and_close.Goals as goal

both : {T E : Type 0} (r : Result T E) (P Q R : T → Type 0) → ((x : T) → P x → Q x → R x) → IfOk r P → IfOk r Q → IfOk r R
both (Ok x) P Q R f p q = f x p q
both (Err e) P Q R f p q = tt

pub returns-then-complete-clause-ok : goal.returns-then-complete-clause-ok
returns-then-complete-clause-ok c =
    let n = c.in-Ok.field-0.noted in
    let u = state_of c.note_and_test.new.self in
    let done = tested_completes c.args.id c.args.event n u c.in-Ok.field-0.complete c.in-Ok.ensures.complete c.if-complete.true in
    let text = λ (r : Reply) (l : ReplyLabel). c.args.self.now.gathered.bytes.items ++ (labelled_reply format.Line l (note_reply_of c.args.id (Ok n)) ++ labelled_reply format.Line l r) in
    both c.gather_closing.result _ _ _
    (λ change k opens. notes_closed c.args.self.now c.gather_closing.new.self (put_back_in_text (bytes_of c.args.tag) (bytes_of c.args.head.name)) c.args.id c.args.event (Ok n) u c.requires.lines c.gather_closing.ensures.style c.in-Ok.ensures.answered
    k.0 change c.requires.closes done k.1 k.2 opens (k.3 ∙ ap (text k.0) c.text_label.ensures))
    c.gather_closing.ensures.ok c.gather_closing.ensures.opens

pub returns-in_ok-gather_noted-in-Ok-clause-ok : goal.returns-in_ok-gather_noted-in-Ok-clause-ok
returns-in_ok-gather_noted-in-Ok-clause-ok c =
    let n = c.in-Ok.field-0.noted in
    let u = state_of c.note_and_test.new.self in
    let h = c.in_ok-gather_noted-in-Ok.ensures in
    notes_open c.args.self.now c.gather_noted.new.self (put_back_in_text (bytes_of c.args.tag) (bytes_of c.args.head.name)) c.args.id c.args.event (Ok n) u c.requires.lines h.style c.in-Ok.ensures.answered
    (ap (λ (k : CheckedCore). checked.state_of k) (sym h.core))
    (behind_none c.args.self.now.style.closes (Note c.args.id c.args.event) (note_reply_of c.args.id (Ok n)) u (λ on. tested_stays c.args.id c.args.event n u c.in-Ok.field-0.complete c.in-Ok.ensures.complete c.if-complete.false))
    (λ off. closes_not_off c.args.self.now.style.closes c.requires.closes off)
    h.ok

pub returns-in_ok-gather_noted-in-Err-clause-ok : goal.returns-in_ok-gather_noted-in-Err-clause-ok
returns-in_ok-gather_noted-in-Err-clause-ok c =
    let u = state_of c.note_and_test.new.self in
    let h = c.in_ok-gather_noted-in-Err.ensures in
    notes_open c.args.self.now c.gather_noted-in-Err.new.self (put_back_in_text (bytes_of c.args.tag) (bytes_of c.args.head.name)) c.args.id c.args.event (Err c.in-Err.refusal) u c.requires.lines h.style c.in-Err.ensures.answered
    (ap (λ (k : CheckedCore). checked.state_of k) (sym h.core))
    (behind_none c.args.self.now.style.closes (Note c.args.id c.args.event) (note_reply_of c.args.id (Err c.in-Err.refusal)) u (λ on. refused_stays c.args.id c.args.event c.in-Err.refusal u))
    (λ off. closes_not_off c.args.self.now.style.closes c.requires.closes off)
    h.ok
