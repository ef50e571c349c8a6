use Rattle.std.proofs.Common.{◌≡◌, ◌-◌, ◌∙◌, List, Some, arith, length, refl, slice_get, sym, ap, subst}
use Rattle.std.proofs.lemmas.Option.{slice_get_read}
use Rattle.scrib_types.specs.declared.event.Event.{Event}
use Rattle.scrib_record.specs.RefusedEvents.{IsRefused}
use Rattle.scrib_record.specs.Stale.{Recorded}
use Rattle.scrib_record.proofs.RefusedLemmas.{refused}
use Rattle.scrib_record.proofs.record.Record.refused_event.Goals as goal

pub returns : goal.returns
returns c =
    let r = c.self.inside in
    let e = c.in_ok-event.ensures.lookup in
    let index = c.in_ok-checked_sub.field-0 in
    let read = slice_get_read c.deref.result.now (length c.deref.result.now) index c.in_ok-event.event.now refl e.3.0 e.1 in
    let index_is : index ≡ c.in-Offence.place - 1 = omega arith in
    let here : slice_get r.log.items (c.in-Offence.place - 1) ≡ Some c.in_ok-event.event.now =
    ap (slice_get r.log.items) (sym index_is) ∙ ap (λ (x : List Event). slice_get x index) (sym c.deref.ensures.value) ∙ read in
    subst (λ (x : Recorded). IsRefused x c.in-Some.version r.judging.configuration c.in-Offence.place c.in_ok-event.event.now) c.self.view_is
    (refused r.name r.log.items r.judging c.in-Some.version c.in-Offence.place c.in-Offence.role c.in-Offence.allowed c.in_ok-event.event.now c.self.invariant.kept c.in-Some.is c.in-Offence.is here)
