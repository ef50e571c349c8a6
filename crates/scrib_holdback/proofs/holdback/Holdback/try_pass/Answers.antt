use Rattle.std.proofs.Common.{refl, subst}
use Rattle.scrib_types.specs.declared.event.Event.{Event}
use Rattle.scrib_holdback.specs.Holdings.{Holding}
use Rattle.scrib_holdback.specs.Releases.{IsReceivable, CountsEvent}
use Rattle.scrib_holdback.proofs.HoldbackLemmas.{passes_alone}
use Rattle.scrib_holdback.proofs.holdback.Holdback.try_pass.Goals as goal

pub returns-clause-passed : goal.returns-clause-passed
returns-clause-passed g c = λ yes.
    (let old : Holding g.row.A.Denot = record { roles = c.self.inside.waiting.roles; waiting = c.self.inside.waiting.items; flights = c.self.inside.flights.items } in
    let new : Holding g.row.A.Denot = record { roles = c.count_idle.new.self.roles; waiting = c.count_idle.new.self.items; flights = c.count_ready.new.flights.items } in
    rw (← c.self.view_is)
    (passes_alone g.A.Arrival.event c.args.event.now old new (c.if-not-is_idle.ensures.none refl) c.count_idle.ensures.items
    (subst (λ (e : Event). IsReceivable c.self.inside.flights.items e) c.get.ensures (c.in-Some.ensures.ready refl))
    (subst (λ (e : Event). CountsEvent e c.self.inside.flights.items c.count_ready.new.flights.items) c.get.ensures (c.in-Some.ensures.counted refl))))
