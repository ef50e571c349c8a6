use Rattle.std.proofs.Common.{◌↔◌, IsTrue, subst}
use Rattle.scrib_holdback.specs.Waiters.{Waiters}
use Rattle.scrib_holdback.specs.Lanes.{HasNone, positions_at}
use Rattle.scrib_holdback.proofs.WaitingLemmas.{HasFirst, empty_at}
use Rattle.scrib_holdback.proofs.waiting.Waiting.is_empty_at.Goals as goal

pub returns : goal.returns
returns g c =
    subst (λ (w : Waiters g.row.A.Denot). IsTrue c.is_none.result ↔ HasNone g.A.Arrival.event c.args.place w) c.self.view_is
    (empty_at g.A.Arrival.event c.self.inside.lanes.items c.self.inside.slots.items c.self.inside.pushed c.args.place c.first_position.result c.is_none.result c.self.invariant
    (subst (λ z. HasFirst (positions_at z c.args.place) c.first_position.result) c.deref.ensures.value c.first_position.ensures)
    c.is_none.ensures)
