use Rattle.std.proofs.Common.{◌≡◌, ◌↔◌, [], IsTrue, sym, subst, slice_get, Some}
use Rattle.scrib_holdback.specs.Waiters.{Waiters}
use Rattle.scrib_holdback.specs.Lanes.{positions_at}
use Rattle.scrib_holdback.specs.Releases.{own_items}
use Rattle.scrib_holdback.proofs.WaitingLemmas.{HasFirst, none_first}
use Rattle.scrib_holdback.proofs.waiting.Waiting.has_none.Goals as goal

pub returns : goal.returns
returns g c =
    let r = c.args.role.now in
    subst (λ (w : Waiters g.row.A.Denot). IsTrue c.is_none.result ↔ (own_items g.A.Arrival.event r w.items ≡ [])) c.self.view_is
    (none_first g.A.Arrival.event c.self.inside.lanes.items c.self.inside.slots.items c.self.inside.pushed c.in-Some.place r c.first_position.result c.is_none.result c.self.invariant
    (subst (λ (w : Waiters g.row.A.Denot). slice_get w.roles c.in-Some.place ≡ Some r) (sym c.self.view_is) c.in-Some.ensures)
    (subst (λ z. HasFirst (positions_at z c.in-Some.place) c.first_position.result) c.deref.ensures.value c.first_position.ensures)
    c.is_none.ensures)
