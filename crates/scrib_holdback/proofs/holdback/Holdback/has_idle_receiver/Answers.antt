use Rattle.std.proofs.Common.{◌≡◌, true, ℕ, List, [], subst}
use Rattle.scrib_holdback.specs.Holdings.{Holding}
use Rattle.scrib_holdback.specs.Releases.{is_send_to, own_items}
use Rattle.scrib_holdback.proofs.HoldbackLemmas.{none_for_receiver}
use Rattle.scrib_holdback.proofs.holdback.Holdback.has_idle_receiver.Goals as goal

pub returns-in-Sent : goal.returns-in-Sent
returns-in-Sent g c = λ yes.
    subst (λ (h : Holding g.row.A.Denot). (r : List ℕ) → is_send_to r c.args.event.now ≡ true → own_items g.A.Arrival.event r h.waiting ≡ []) c.self.view_is
    (none_for_receiver g.A.Arrival.event c.self.inside.waiting.items c.args.event.now c.in-Sent.from c.in-Sent.to c.in-Sent.message c.in-Sent.is (c.has_none_at.ensures yes))
