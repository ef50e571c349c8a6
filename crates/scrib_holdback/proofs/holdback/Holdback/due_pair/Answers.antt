use Rattle.std.proofs.Common.{◌∙◌, MatchOption, subst}
use Rattle.scrib_holdback.specs.Holdings.{Holding}
use Rattle.scrib_holdback.specs.Releases.{IsDueOn, IsQuietAt}
use Rattle.scrib_holdback.proofs.HoldbackLemmas.{due_on}
use Rattle.scrib_holdback.proofs.holdback.Holdback.due_pair.Goals as goal

pub returns : goal.returns
returns g c =
    subst (λ (h : Holding g.row.A.Denot). MatchOption c.ready_flight.result (IsQuietAt g.A.Arrival.event c.args.place h) (IsDueOn g.A.Arrival.event h c.args.place)) c.self.view_is
    (due_on g.A.Arrival.event c.args.place c.self.inside.waiting c.self.inside.flights.items c.deref.result.now c.self.inside.waiting.pushed c.in_ok-arrival.arrival.now c.get.result.now c.ready_flight.result
    c.deref.ensures.value (c.get.ensures ∙ c.event-shared.ensures) c.self.invariant c.in_ok-arrival.ensures c.ready_flight.ensures.at c.ready_flight.ensures.ready c.ready_flight.ensures.unready)
