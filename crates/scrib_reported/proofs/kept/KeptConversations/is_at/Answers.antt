use Rattle.std.proofs.Common.{◌∙◌, ℕ, Option, Some, ap, eqb-true, sym}
use Rattle.scrib_reported.specs.declared.kept.KeptConversation.{KeptConversation}
use Rattle.scrib_reported.proofs.kept.KeptConversations.is_at.Goals as goal

pub returns-in-Some : goal.returns-in-Some
returns-in-Some c = λ e.
    (c.in-Some.field-0-1.now, sym c.in-Some.ensures.entry ∙ ap (λ (n : ℕ). let o : Option (ℕ × KeptConversation) = Some (n, c.in-Some.field-0-1.now) in o) (eqb-true c.in-Some.key.now c.args.id e))
