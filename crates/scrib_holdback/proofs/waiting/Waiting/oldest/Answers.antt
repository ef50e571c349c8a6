use Rattle.std.proofs.Common.{◌≡◌, ◌∙◌, [], MatchOption, refl, subst, arith}
use Rattle.std.proofs.lemmas.Bool.{false≢true}
use Rattle.scrib_holdback.specs.Holdings.{IsOldestWaiting}
use Rattle.scrib_holdback.specs.Lanes.{waiting_items}
use Rattle.scrib_holdback.specs.Waiters.{Waiters}
use Rattle.scrib_holdback.proofs.SlotLemmas.{no_slots, first_slot}
use Rattle.scrib_holdback.proofs.WaitingLemmas.{oldest_lent}
use Rattle.scrib_holdback.proofs.waiting.Waiting.oldest.Goals as goal

pub returns-in_err-slot : goal.returns-in_err-slot
returns-in_err-slot g c =
    rw c.from_residual.ensures
    (rw (← c.self.view_is)
    (no_slots c.self.inside.slots.items (λ some. false≢true (c.in_err-slot.ensures.variant.1 (omega (arith, some, c.self.inside.slots.ok.0))))))

pub returns : goal.returns
returns g c =
    let k = first_slot c.self.inside.slots.items (omega (arith, c.in_ok-slot.ensures.variant.0 refl, c.self.inside.slots.ok.0)) c.self.invariant.full in
    subst (λ (w : Waiters g.row.A.Denot). MatchOption c.as_ref.result (w.items ≡ []) (λ b. IsOldestWaiting w.items b.now)) c.self.view_is
    (oldest_lent (waiting_items c.self.inside.slots.items) c.as_ref.result k.x (c.as_ref.ensures.value ∙ c.in_ok-slot.ensures.lookup ∙ k.slot c.in_ok-slot.slot.now) k.oldest)
