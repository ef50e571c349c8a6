use Rattle.std.proofs.Common.{◌≡◌, ◌∙◌, Bool, true, false, not, Some, refl, sym, ap, subst}
use Rattle.scrib_hold_stage.specs.Conversations.{IsNotOldest}
use Rattle.scrib_hold_stage.specs.Changes.{conversation_at}
use Rattle.scrib_hold_stage.proofs.conversations.is_not_oldest.Goals as goal

not_so : (b : Bool) → not b ≡ true → b ≡ false
not_so true h = sym h
not_so false h = refl

pub returns-in-Some-get_index : goal.returns-in-Some-get_index
returns-in-Some-get_index g c = λ yes.
    (let entries = c.args.conversations.now.entries in
    let at : conversation_at entries c.args.id ≡ Some c.in-Some-get_index.conversation.now = ap (conversation_at entries) (sym c.if-key-id.true) ∙ c.in-Some-get_index.ensures.value in
    subst (IsNotOldest c.args.time) (sym at) (c.is_oldest.ensures.no (not_so c.is_oldest.result yes)))
