use Rattle.std.proofs.Common.{◌∙◌, refl}
use Rattle.std.proofs.lemmas.List.{with_items_is}
use Rattle.scrib_holdback.specs.Holdings.{Holding}
use Rattle.scrib_holdback.specs.Releases.{CountsEvent}
use Rattle.scrib_holdback.proofs.HoldbackLemmas.{apart_read, counted_read, kept_read, passes_apart, ready_read, sound_counted}
use Rattle.scrib_holdback.proofs.holdback.Holdback.try_pass_among.Goals as goal

pub invariant_of-self-2 : goal.invariant_of-self-2
invariant_of-self-2 g c =
    let flights = c.self.inside.flights in
    let counted : CountsEvent c.args.event.now flights.items c.count_at.new.flights = counted_read c.get-unshared.result.now c.args.event.now flights.items c.deref_mut.result.now c.count_at.new.flights c.deref_mut.ensures.value c.get-unshared.ensures c.count_at.ensures.counted in
    rw (with_items_is flights c.count_at.new.flights (c.count_at.auto.flights ∙ c.deref_mut.ensures.len), c.in-Ok.ensures.pushed)
    (sound_counted g.A.Arrival.event c.self.inside.waiting.items c.skip.new.self.items flights.items c.count_at.new.flights c.self.inside.waiting.pushed c.args.event.now c.self.invariant c.in-Ok.ensures.items counted
    (kept_read flights.items c.deref_mut.result.now c.count_at.new.flights c.deref_mut.ensures.value c.count_at.ensures.kept))

pub returns-clause-passed : goal.returns-clause-passed
returns-clause-passed g c = λ yes.
    (let flights = c.self.inside.flights in
    let old : Holding g.row.A.Denot = record { roles = c.self.inside.waiting.roles; waiting = c.self.inside.waiting.items; flights = flights.items } in
    let new : Holding g.row.A.Denot = record { roles = c.skip.new.self.roles; waiting = c.skip.new.self.items; flights = c.count_at.new.flights } in
    let counted : CountsEvent c.args.event.now flights.items c.count_at.new.flights = counted_read c.get-unshared.result.now c.args.event.now flights.items c.deref_mut.result.now c.count_at.new.flights c.deref_mut.ensures.value c.get-unshared.ensures c.count_at.ensures.counted in
    rw (← c.self.view_is, with_items_is flights c.count_at.new.flights (c.count_at.auto.flights ∙ c.deref_mut.ensures.len))
    (passes_apart g.A.Arrival.event c.args.event.now old new
    (apart_read g.A.Arrival.event c.args.event.now c.get-unshared.result.now c.args.self.now old c.get-unshared.ensures c.self.view_is (c.if-not-is_apart.ensures refl))
    c.in-Ok.ensures.items
    (ready_read flights.items c.deref.result.now c.args.event.now c.get-unshared.result.now c.deref.ensures.value c.get-unshared.ensures (c.in-Some.ensures.ready refl))
    counted))
