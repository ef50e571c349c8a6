use Rattle.std.proofs.Common.{◌∙◌, ◌++◌, ◌∷◌, [], IsTrue, refl, ap}
use Rattle.std.proofs.lemmas.Result.{IfOk-weaker}
use Rattle.scrib_holdback.specs.Holdings.{IsExpired}
use Rattle.scrib_hold_stage.specs.Conversations.{noted_event}
use Rattle.scrib_hold_stage.proofs.ConversationLemmas.{expired_open, expired_early}
use Rattle.scrib_hold_stage.proofs.conversation.Conversation.release_at.Goals as goal

pub returns-then-self-clause-expired : goal.returns-then-self-clause-expired
returns-then-self-clause-expired g c =
    IfOk-weaker c.release_oldest.result
    (λ some. IsTrue some → IsExpired (noted_event g.A.Arrival.event) c.args.self.now.holdback c.release_oldest.new.self c.args.released.now.items c.release_oldest.new.released.items) _
    (λ some f y. expired_open g.A.Arrival.event c.args.time c.args.self.now _ c.args.released.now.items c.release_oldest.new.released.items c.if-self.true refl refl (c.if-not-is_oldest.ensures.yes refl) (f y))
    c.release_oldest.ensures.expired

pub returns-clause-expired : goal.returns-clause-expired
returns-clause-expired g c = λ y.
    expired_early g.A.Arrival.event c.args.time c.args.self.now _ c.args.released.now.items c.push_reserved.new.self.items c.in-Some.noted
    c.if-self.false refl refl (c.if-not-is_oldest.ensures.yes refl) c.in-Some.ensures.items
    (c.push_reserved.ensures.items ∙ ap (λ z. z ++ c.in-Some.noted ∷ []) c.in_ok-reserve.ensures.items)
