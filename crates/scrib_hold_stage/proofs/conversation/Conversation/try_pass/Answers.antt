use Rattle.std.proofs.Common.{refl}
use Rattle.scrib_hold_stage.proofs.PassLemmas.{passes_in}
use Rattle.scrib_hold_stage.proofs.conversation.Conversation.try_pass.Goals as goal

pub returns-clause-passed : goal.returns-clause-passed
returns-clause-passed g c = λ yes.
    passes_in g.A.Arrival.event c.args.event.now c.args.self.now _ c.if-not-self.false refl refl (c.try_pass.ensures.passed yes)
