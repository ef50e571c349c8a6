use Rattle.std.proofs.Common.{◌∙◌, List, sym, subst}
use Rattle.std.proofs.lemmas.List.{with_items_is}
use Rattle.scrib_types.specs.declared.event.Event.{Event}
use Rattle.scrib_holdback.specs.declared.flights.Flight.{Flight}
use Rattle.scrib_holdback.specs.Holdings.{Holding}
use Rattle.scrib_holdback.specs.Releases.{IsDueOn, IsFlightOf}
use Rattle.scrib_holdback.proofs.HoldbackLemmas.{flight_taken, taken_at, sound_taken, counted_read, kept_read}
use Rattle.scrib_holdback.proofs.holdback.Holdback.take_due.Goals as goal

pub count_at-requires-clause-at : goal.count_at-requires-clause-at
count_at-requires-clause-at g c =
    let due = subst (λ (h : Holding g.row.A.Denot). IsDueOn g.A.Arrival.event h c.args.place c.args.pair) (sym c.self.view_is) c.requires.due in
    let at = flight_taken g.A.Arrival.event c.args.place c.args.pair c.self.inside.waiting c.take_first-arrival.new.self c.self.inside.flights.items c.take_first-arrival.result due c.take_first-arrival.ensures.taken in
    subst (λ (e : Event). IsFlightOf e c.deref_mut.result.now c.args.pair) (sym (c.get.ensures ∙ c.event.ensures))
    (subst (λ (fs : List Flight). IsFlightOf (g.A.Arrival.event c.take_first-arrival.result) fs c.args.pair) (sym c.deref_mut.ensures.value) at)

pub invariant_of-self : goal.invariant_of-self
invariant_of-self g c =
    let old : Holding g.row.A.Denot = record { roles = c.self.inside.waiting.roles; waiting = c.self.inside.waiting.items; flights = c.self.inside.flights.items } in
    let new : Holding g.row.A.Denot = record { roles = c.take_first-arrival.new.self.roles; waiting = c.take_first-arrival.new.self.items; flights = c.count_at.new.flights } in
    let counted = counted_read c.get.result.now (g.A.Arrival.event c.take_first-arrival.result) old.flights c.deref_mut.result.now c.count_at.new.flights c.deref_mut.ensures.value (c.get.ensures ∙ c.event.ensures) c.count_at.ensures.counted in
    let step = taken_at g.A.Arrival.event c.args.place c.self.inside.waiting c.take_first-arrival.new.self c.self.inside.flights.items c.count_at.new.flights c.take_first-arrival.result c.take_first-arrival.ensures.taken counted in
    rw (with_items_is c.self.inside.flights c.count_at.new.flights (c.count_at.auto.flights ∙ c.deref_mut.ensures.len), c.take_first-arrival.ensures.pushed)
    (sound_taken g.A.Arrival.event old new c.self.inside.waiting.pushed c.take_first-arrival.result c.self.invariant step
    (kept_read old.flights c.deref_mut.result.now c.count_at.new.flights c.deref_mut.ensures.value c.count_at.ensures.kept))

pub returns-clause-taken : goal.returns-clause-taken
returns-clause-taken g c =
    let old : Holding g.row.A.Denot = record { roles = c.self.inside.waiting.roles; waiting = c.self.inside.waiting.items; flights = c.self.inside.flights.items } in
    let counted = counted_read c.get.result.now (g.A.Arrival.event c.take_first-arrival.result) old.flights c.deref_mut.result.now c.count_at.new.flights c.deref_mut.ensures.value (c.get.ensures ∙ c.event.ensures) c.count_at.ensures.counted in
    let step = taken_at g.A.Arrival.event c.args.place c.self.inside.waiting c.take_first-arrival.new.self c.self.inside.flights.items c.count_at.new.flights c.take_first-arrival.result c.take_first-arrival.ensures.taken counted in
    rw (← c.self.view_is, with_items_is c.self.inside.flights c.count_at.new.flights (c.count_at.auto.flights ∙ c.deref_mut.ensures.len))
    (record { x = c.take_first-arrival.result; role = c.take_first-arrival.ensures.taken.role; taken = step; appended = c.push_reserved.ensures.items })
