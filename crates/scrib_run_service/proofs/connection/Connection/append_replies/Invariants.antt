use Rattle.std.specs.Vec.Iter.{into_iter_items}
use Rattle.scrib_run_service.specs.declared.connection.Connection.{Connection}
use Rattle.scrib_run_service.specs.Outcomes.{Adds, noted_outcomes}
use Rattle.scrib_run_service.proofs.connection.Connection.append_replies.Given as goal

abbrev pub invariant-loop-reply : goal.invariant-loop-reply
invariant-loop-reply l =
    (last : Connection) → Adds l.self last (noted_outcomes l.id (into_iter_items l.reply-iterator)) → Adds l.fn.self last (noted_outcomes l.id l.fn.replies.items)
