use Rattle.std.proofs.Common.{refl}
use Rattle.std.proofs.lemmas.Result.{on_ok_weaker}
use Rattle.scrib_hold_stage.proofs.ConversationLemmas.{pushed_open}
use Rattle.scrib_hold_stage.proofs.conversation.Conversation.push.Goals as goal

pub returns-then-self-clause-ok : goal.returns-then-self-clause-ok
returns-then-self-clause-ok g c =
    on_ok_weaker c.push.result
    (λ p. pushed_open g.A.Arrival.event c.args.noted c.args.self.now _ c.args.released.now.items c.push.new.released.items c.if-self.true refl refl p)
    c.push.ensures.ok
