use Rattle.std.proofs.Common.{◌∙◌, ◌++◌, ◌∷◌, [], sym, ap}
use Rattle.scrib_holdback.specs.Lanes.{waiting_items}
use Rattle.scrib_holdback.proofs.SlotLemmas.{items_joined}
use Rattle.scrib_holdback.proofs.waiting.Waiting.into_vec.Goals as goal

pub loop-slot-preserved : goal.loop-slot-preserved
loop-slot-preserved g c =
    c.in_ok-push_item.ensures ∙ ap (λ z. z ++ waiting_items (c.in-Some.slot ∷ [])) c.loop-slot.invariant
    ∙ sym (items_joined c.loop-slot.yielded (c.in-Some.slot ∷ []))
