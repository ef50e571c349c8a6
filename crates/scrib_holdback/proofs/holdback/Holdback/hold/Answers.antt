use Rattle.std.proofs.Common.{refl, sym, subst}
use Rattle.scrib_holdback.specs.Holdings.{Holding}
use Rattle.scrib_holdback.specs.Releases.{IsFlightOf}
use Rattle.scrib_holdback.proofs.FlightLemmas.{has_at}
use Rattle.scrib_holdback.proofs.HoldbackLemmas.{sound_held}
use Rattle.scrib_holdback.proofs.holdback.Holdback.hold.Goals as goal

pub invariant_of-self-2 : goal.invariant_of-self-2
invariant_of-self-2 g c =
    let flights = c.self.inside.flights.items in
    rw (c.in_ok-push.ensures.pushed)
    (sound_held g.A.Arrival.event c.self.inside.waiting.items c.push.new.self.items flights flights c.self.inside.waiting.pushed c.args.arrival c.self.invariant c.in_ok-push.ensures.items
    (record { sends = λ p q. refl; receptions = λ p q. refl }) (record { has = λ e h. h; distinct = λ d. d })
    (has_at (g.A.Arrival.event c.args.arrival) flights c.args.places.pair (subst (λ (h : Holding g.row.A.Denot). IsFlightOf (g.A.Arrival.event c.args.arrival) h.flights c.args.places.pair) (sym c.self.view_is) c.requires.pair)))
