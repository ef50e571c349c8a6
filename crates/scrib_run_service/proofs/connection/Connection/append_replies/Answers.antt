use Rattle.std.proofs.Common.{◌≡◌, List, [], ◌∷◌, Result, sym, subst, arith}
use Rattle.std.specs.Vec.Iter.{into_iter_items}
use Rattle.scrib_core.specs.declared.format.Format.TheVariants as format
use Rattle.scrib_locked_steps.specs.declared.pass_calls.PassRefusal.{PassRefusal}
use Rattle.scrib_core.specs.declared.conversation_steps.Noted.{Noted}
use Rattle.scrib_client.specs.ServiceReplies.{noted_reply}
use Rattle.scrib_run_service.specs.Outcomes.{Adds, replied, noted_outcomes}
use Rattle.scrib_run_service.proofs.ConnectionLemmas.{adds_none, adds_next, none_left}
use Rattle.scrib_run_service.proofs.connection.Connection.append_replies.Goals as goal

pub loop-reply-preserved : goal.loop-reply-preserved
loop-reply-preserved c = λ last rest.
    let front : into_iter_items c.loop-reply.reply-iterator ≡ c.in-Some.reply ∷ into_iter_items c.next.new.self = c.in-Some.ensures.steps.0 in
    let so_far = subst (λ (rs : List (Result Noted PassRefusal)). (u : _) → Adds c.loop-reply.self u (noted_outcomes c.args.id rs) → Adds c.args.self.now u (noted_outcomes c.args.id c.args.replies.items)) front c.loop-reply.invariant in
    adds_next c.args.self.now c.loop-reply.self c.append_noted.new.self last (replied format.Line (noted_reply c.args.id c.in-Some.reply)) (noted_outcomes c.args.id (into_iter_items c.next.new.self)) (noted_outcomes c.args.id c.args.replies.items) so_far c.in_ok-append_noted.ensures.added rest

pub returns-clause-added : goal.returns-clause-added
returns-clause-added c =
    let none : into_iter_items c.loop-reply.reply-iterator ≡ [] =
    none_left (into_iter_items c.loop-reply.reply-iterator) (omega (arith, c.in-None.ensures.steps.0, c.loop-reply.reply-iterator.rest.ok.0)) in
    c.loop-reply.invariant c.loop-reply.self (subst (λ (rs : List (Result Noted PassRefusal)). Adds c.loop-reply.self c.loop-reply.self (noted_outcomes c.args.id rs)) (sym none) (adds_none c.loop-reply.self))
