use Rattle.std.proofs.Common.{◌≡◌, List, [], ◌∷◌, sym, subst, arith}
use Rattle.std.specs.Vec.Iter.{into_iter_items}
use Rattle.scrib_types.specs.declared.event.Event.{Event}
use Rattle.scrib_core.specs.declared.format.Format.TheVariants as format
use Rattle.scrib_script_reader.specs.declared.item.Item.TheVariants as item
use Rattle.scrib_core.specs.declared.step.Step.TheVariants as step
use Rattle.scrib_run_service.specs.Outcomes.{Yields, note_items}
use Rattle.scrib_run_service.proofs.ConnectionLemmas.{yields_none, yields_next, none_left}
use Rattle.scrib_run_service.proofs.connection.Connection.note_each.Goals as goal

pub loop-event-preserved : goal.loop-event-preserved
loop-event-preserved g c = λ last rest.
    let front : into_iter_items c.loop-event.event-iterator ≡ c.in-Some.event ∷ into_iter_items c.next.new.self = c.in-Some.ensures.steps.0 in
    let so_far = subst (λ (es : List Event). (u : _) → Yields c.loop-event.self u (note_items c.args.id es) → Yields c.args.self.now u (note_items c.args.id c.args.events.items)) front c.loop-event.invariant in
    yields_next c.args.self.now c.loop-event.self c.note_now.new.self last (item.Step format.Line (step.Note c.args.id c.in-Some.event)) (note_items c.args.id (into_iter_items c.next.new.self)) (note_items c.args.id c.args.events.items) so_far c.in_ok-note_now.ensures.yielded rest

pub returns-clause-yielded : goal.returns-clause-yielded
returns-clause-yielded g c =
    let none : into_iter_items c.loop-event.event-iterator ≡ [] =
    none_left (into_iter_items c.loop-event.event-iterator) (omega (arith, c.in-None.ensures.steps.0, c.loop-event.event-iterator.rest.ok.0)) in
    c.loop-event.invariant c.loop-event.self (subst (λ (es : List Event). Yields c.loop-event.self c.loop-event.self (note_items c.args.id es)) (sym none) (yields_none c.loop-event.self))
