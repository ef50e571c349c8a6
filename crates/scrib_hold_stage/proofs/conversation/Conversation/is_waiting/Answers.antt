use Rattle.std.proofs.Common.{◌∙◌, sym}
use Rattle.scrib_hold_stage.proofs.ConversationLemmas.{some_item}
use Rattle.scrib_hold_stage.proofs.conversation.Conversation.is_waiting.Goals as goal

pub returns-clause-yes : goal.returns-clause-yes
returns-clause-yes g c = λ yes. (let p = some_item c.oldest.result _ _ c.oldest.ensures (sym c.is_some.ensures ∙ yes) in (p.0.now, p.1))
