use Rattle.std.proofs.Common.{sym, subst}
use Rattle.scrib_core.specs.declared.reply.Reply.{Reply}
use Rattle.scrib_core.specs.declared.step.Step.TheVariants.{Close}
use Rattle.scrib_core.specs.Answers.{IsAnswered}
use Rattle.scrib_core.specs.Held.{state_of}
use Rattle.scrib_closing.proofs.closing.gather_close.Goals as goal

pub returns-in_err-add_reply-clause-made : goal.returns-in_err-add_reply-clause-made
returns-in_err-add_reply-clause-made c =
    let step = Close c.args.id in
    let answered = subst (λ (r : Reply). IsAnswered (state_of c.args.core.now) step r (state_of c.close_conversation-closed.new.self)) (sym c.close_reply-reply.ensures) c.close_conversation-closed.ensures.answered in
    (c.close_reply-reply.result, answered)

pub returns-clause-ok : goal.returns-clause-ok
returns-clause-ok c =
    let step = Close c.args.id in
    let answered = subst (λ (r : Reply). IsAnswered (state_of c.args.core.now) step r (state_of c.close_conversation-closed.new.self)) (sym c.close_reply-reply.ensures) c.close_conversation-closed.ensures.answered in
    (c.close_reply-reply.result, answered, c.in_ok-add_reply.ensures.ok)

pub returns-clause-made : goal.returns-clause-made
returns-clause-made c =
    let step = Close c.args.id in
    let answered = subst (λ (r : Reply). IsAnswered (state_of c.args.core.now) step r (state_of c.close_conversation-closed.new.self)) (sym c.close_reply-reply.ensures) c.close_conversation-closed.ensures.answered in
    (c.close_reply-reply.result, answered)
