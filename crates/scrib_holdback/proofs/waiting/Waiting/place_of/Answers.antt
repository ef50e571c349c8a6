use Rattle.std.proofs.Common.{subst}
use Rattle.scrib_holdback.specs.Lanes.{IsPlaceOfLane}
use Rattle.scrib_holdback.proofs.WaitingLemmas.{placed}
use Rattle.scrib_holdback.proofs.waiting.Waiting.place_of.Goals as goal

pub returns : goal.returns
returns g c =
    rw (← c.self.view_is)
    (placed g.A.Arrival.event c.self.inside.lanes.items c.args.role.now _ c.find_lane.result c.self.invariant.met
    (subst (λ z. IsPlaceOfLane c.args.role.now z c.find_lane.result) c.deref.ensures.value c.find_lane.ensures))
