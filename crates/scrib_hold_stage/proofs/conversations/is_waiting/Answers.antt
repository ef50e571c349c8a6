use Rattle.std.proofs.Common.{◌∙◌, sym, ap}
use Rattle.scrib_hold_stage.specs.Conversations.{waiting_at}
use Rattle.scrib_hold_stage.proofs.conversations.is_waiting.Goals as goal

pub returns-in-Some-clause-yes : goal.returns-in-Some-clause-yes
returns-in-Some-clause-yes g c = λ yes. (let p = c.is_waiting.ensures.yes yes in (p.0, (p.1.0, ap waiting_at (sym c.in-Some.ensures.value) ∙ p.1.1)))
