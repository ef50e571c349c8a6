use Rattle.std.proofs.Common.{◌∙◌}
use Rattle.std.proofs.lemmas.List.{with_items_is}
use Rattle.scrib_holdback.specs.Releases.{CountsEvent}
use Rattle.scrib_holdback.proofs.HoldbackLemmas.{counted_read, kept_read, sound_counted}
use Rattle.scrib_holdback.proofs.holdback.Holdback.pass.Goals as goal

pub invariant_of-self-2 : goal.invariant_of-self-2
invariant_of-self-2 g c =
    let flights = c.self.inside.flights in
    let e = g.A.Arrival.event c.args.arrival in
    let counted : CountsEvent e flights.items c.count_at.new.flights = counted_read c.get.result.now e flights.items c.deref_mut.result.now c.count_at.new.flights c.deref_mut.ensures.value (c.get.ensures ∙ c.event.ensures) c.count_at.ensures.counted in
    rw (with_items_is flights c.count_at.new.flights (c.count_at.auto.flights ∙ c.deref_mut.ensures.len), c.in_ok-skip.ensures.pushed)
    (sound_counted g.A.Arrival.event c.self.inside.waiting.items c.skip.new.self.items flights.items c.count_at.new.flights c.self.inside.waiting.pushed e c.self.invariant c.in_ok-skip.ensures.items counted
    (kept_read flights.items c.deref_mut.result.now c.count_at.new.flights c.deref_mut.ensures.value c.count_at.ensures.kept))
