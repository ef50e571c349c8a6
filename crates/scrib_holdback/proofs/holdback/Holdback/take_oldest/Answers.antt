use Rattle.std.proofs.Common.{◌∙◌, sym}
use Rattle.std.proofs.lemmas.List.{with_items_is}
use Rattle.scrib_holdback.specs.Holdings.{Holding}
use Rattle.scrib_holdback.proofs.HoldbackLemmas.{taken_at, sound_taken, taken_paired, counted_read, kept_read, has_read}
use Rattle.scrib_holdback.proofs.holdback.Holdback.take_oldest.Goals as goal

pub count-pair-requires-clause-paired : goal.count-pair-requires-clause-paired
count-pair-requires-clause-paired g c =
    has_read c.deref_mut.result.now c.self.inside.flights.items c.get.result.now (g.A.Arrival.event c.take_first-arrival.result) (sym c.deref_mut.ensures.value) (sym (c.get.ensures ∙ c.event-shared.ensures))
    (taken_paired g.A.Arrival.event c.args.place c.self.inside.waiting c.take_first-arrival.new.self c.self.inside.flights.items c.self.inside.waiting.pushed c.take_first-arrival.result c.self.invariant c.take_first-arrival.ensures.taken)

pub invariant_of-self : goal.invariant_of-self
invariant_of-self g c =
    let old : Holding g.row.A.Denot = record { roles = c.self.inside.waiting.roles; waiting = c.self.inside.waiting.items; flights = c.self.inside.flights.items } in
    let new : Holding g.row.A.Denot = record { roles = c.take_first-arrival.new.self.roles; waiting = c.take_first-arrival.new.self.items; flights = c.count-pair.new.flights } in
    let counted = counted_read c.get.result.now (g.A.Arrival.event c.take_first-arrival.result) old.flights c.deref_mut.result.now c.count-pair.new.flights c.deref_mut.ensures.value (c.get.ensures ∙ c.event-shared.ensures) c.count-pair.ensures.counted in
    let step = taken_at g.A.Arrival.event c.args.place c.self.inside.waiting c.take_first-arrival.new.self c.self.inside.flights.items c.count-pair.new.flights c.take_first-arrival.result c.take_first-arrival.ensures.taken counted in
    rw (with_items_is c.self.inside.flights c.count-pair.new.flights (c.count-pair.auto.flights ∙ c.deref_mut.ensures.len), c.take_first-arrival.ensures.pushed)
    (sound_taken g.A.Arrival.event old new c.self.inside.waiting.pushed c.take_first-arrival.result c.self.invariant step
    (kept_read old.flights c.deref_mut.result.now c.count-pair.new.flights c.deref_mut.ensures.value c.count-pair.ensures.kept))

pub returns-clause-taken : goal.returns-clause-taken
returns-clause-taken g c =
    let old : Holding g.row.A.Denot = record { roles = c.self.inside.waiting.roles; waiting = c.self.inside.waiting.items; flights = c.self.inside.flights.items } in
    let counted = counted_read c.get.result.now (g.A.Arrival.event c.take_first-arrival.result) old.flights c.deref_mut.result.now c.count-pair.new.flights c.deref_mut.ensures.value (c.get.ensures ∙ c.event-shared.ensures) c.count-pair.ensures.counted in
    let step = taken_at g.A.Arrival.event c.args.place c.self.inside.waiting c.take_first-arrival.new.self c.self.inside.flights.items c.count-pair.new.flights c.take_first-arrival.result c.take_first-arrival.ensures.taken counted in
    rw (← c.self.view_is, with_items_is c.self.inside.flights c.count-pair.new.flights (c.count-pair.auto.flights ∙ c.deref_mut.ensures.len))
    (record { x = c.take_first-arrival.result; role = c.take_first-arrival.ensures.taken.role; taken = step; appended = c.push_reserved.ensures.items })
