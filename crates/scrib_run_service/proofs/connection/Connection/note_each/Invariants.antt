use Rattle.std.specs.Vec.Iter.{into_iter_items}
use Rattle.scrib_run_service.specs.declared.connection.Connection.{Connection}
use Rattle.scrib_run_service.specs.Outcomes.{Yields, note_items}
use Rattle.scrib_run_service.proofs.connection.Connection.note_each.Given as goal

abbrev pub invariant-loop-event : goal.invariant-loop-event
invariant-loop-event g l =
    (last : Connection) → Yields l.self last (note_items l.id (into_iter_items l.event-iterator)) → Yields l.fn.self last (note_items l.id l.fn.events.items)
