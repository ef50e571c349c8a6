use Rattle.std.proofs.Common.{◌≡◌, ◌∙◌, ◌++◌, ◌∷◌, [], sym, ap, subst, slice_get, Some}
use Rattle.scrib_types.specs.Logs.{subject_of}
use Rattle.scrib_holdback.specs.Waiters.{Waiters}
use Rattle.scrib_holdback.specs.Lanes.{waiting_items}
use Rattle.scrib_holdback.proofs.SlotLemmas.{items_pushed}
use Rattle.scrib_holdback.proofs.WaitingLemmas.{laid_pushed}
use Rattle.scrib_holdback.proofs.waiting.Waiting.push.Goals as goal

pub invariant_of-self-2 : goal.invariant_of-self-2
invariant_of-self-2 g c =
    laid_pushed g.A.Arrival.event c.self.inside.lanes.items c.push_position.new.lanes.items c.self.inside.slots.items c.push_back_reserved.new.self.items
    c.self.inside.pushed c.args.place c.args.arrival c.self.invariant
    (subst (λ (w : Waiters g.row.A.Denot). slice_get w.roles c.args.place ≡ Some (subject_of (g.A.Arrival.event c.args.arrival))) (sym c.self.view_is) c.requires)
    c.in_ok-push_position.ensures.ok
    (c.push_back_reserved.ensures.items ∙ ap (λ z. z ++ Some c.args.arrival ∷ []) c.in_ok-reserve.ensures.items)

pub returns-clause-items : goal.returns-clause-items
returns-clause-items g c =
    ap waiting_items (c.push_back_reserved.ensures.items ∙ ap (λ z. z ++ Some c.args.arrival ∷ []) c.in_ok-reserve.ensures.items)
    ∙ items_pushed c.self.inside.slots.items c.args.arrival
    ∙ ap (λ (w : Waiters g.row.A.Denot). w.items ++ c.args.arrival ∷ []) c.self.view_is
