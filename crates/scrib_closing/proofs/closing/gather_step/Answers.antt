use Rattle.std.proofs.Common.{◌≡◌, ◌++◌, ◌∙◌, [], ◌∷◌, sym, ap}
use Rattle.std.proofs.lemmas.Result.{err_from_is_err_and, on_ok_weaker, on_err_weaker}
use Rattle.scrib_core.specs.Held.{state_of}
use Rattle.scrib_report.specs.ReplyTexts.{reply_text}
use Rattle.scrib_script_reader.specs.declared.item.Item.TheVariants as item
use Rattle.scrib_closing.proofs.ClosingLemmas.{carried_closed, carried_open, complete_step, open_step, part_closed, part_none}
use Rattle.scrib_closing.proofs.closing.gather_step.Goals as goal

pub returns-in_err-add_reply-clause-err : goal.returns-in_err-add_reply-clause-err
returns-in_err-add_reply-clause-err c =
    let p = err_from_is_err_and c.from_residual.result c.from_residual.ensures.1 in
    rw p.1 (part_none c.args.output (item.Step c.args.asked c.args.step ∷ []) (state_of c.args.core.now) c.args.gathered.now.bytes.items c.add_reply.new.self.bytes.items c.in_err-add_reply.ensures.err)

pub returns-in-Some-clause-ok : goal.returns-in-Some-clause-ok
returns-in-Some-clause-ok c =
    let r = c.apply-reply.result in
    let u = state_of c.apply-reply.new.self in
    let done = complete_step c.args.step r u c.judged_by-judged.result c.is_accepted.result c.judged_by-judged.ensures c.is_accepted.ensures c.in-Some.id c.in-Some.ensures in
    let first = c.in_ok-add_reply.ensures.ok ∙ ap (λ f. c.args.gathered.now.bytes.items ++ reply_text f r) c.reply_format-format.ensures in
    on_ok_weaker c.gather_close.result
    (λ k. carried_closed c.args.output c.args.asked c.args.step r (state_of c.args.core.now) u (state_of c.gather_close.new.core) c.in-Some.id c.apply-reply.ensures.answered done c.args.gathered.now.bytes.items c.add_reply.new.self.bytes.items c.gather_close.new.gathered.bytes.items k.0 k.1 first
    (k.2 ∙ ap (λ f. c.add_reply.new.self.bytes.items ++ reply_text f k.0) c.reply_format-format.ensures))
    c.gather_close.ensures.ok

pub returns-in-Some-clause-err : goal.returns-in-Some-clause-err
returns-in-Some-clause-err c =
    let r = c.apply-reply.result in
    let u = state_of c.apply-reply.new.self in
    let done = complete_step c.args.step r u c.judged_by-judged.result c.is_accepted.result c.judged_by-judged.ensures c.is_accepted.ensures c.in-Some.id c.in-Some.ensures in
    let first = c.in_ok-add_reply.ensures.ok ∙ ap (λ f. c.args.gathered.now.bytes.items ++ reply_text f r) c.reply_format-format.ensures in
    on_err_weaker c.gather_close.result
    (λ same. part_closed c.args.output c.args.asked c.args.step r (state_of c.args.core.now) u (state_of c.gather_close.new.core) c.in-Some.id c.apply-reply.ensures.answered done c.args.gathered.now.bytes.items c.add_reply.new.self.bytes.items c.gather_close.new.gathered.bytes.items c.gather_close.ensures.made first same)
    c.gather_close.ensures.err

pub returns-clause-ok : goal.returns-clause-ok
returns-clause-ok c =
    let r = c.apply-reply.result in
    let u = state_of c.apply-reply.new.self in
    let none = open_step c.args.step r u c.judged_by-judged.result c.is_accepted.result c.judged_by-judged.ensures c.is_accepted.ensures c.in-None.ensures in
    carried_open c.args.output c.args.asked c.args.step r (state_of c.args.core.now) u c.args.gathered.now.bytes.items c.add_reply.new.self.bytes.items c.apply-reply.ensures.answered none
    (c.in_ok-add_reply.ensures.ok ∙ ap (λ f. c.args.gathered.now.bytes.items ++ reply_text f r) c.reply_format-format.ensures)
