use Rattle.std.proofs.Common.{refl}
use Rattle.scrib_client.specs.ConnectionPasses.{pass_after, pass_before}
use Rattle.scrib_run_service.proofs.ConnectionLemmas.{yields_among}
use Rattle.scrib_run_service.proofs.connection.Connection.note_all.Goals as goal

pub returns-in-Ok-clause-yielded : goal.returns-in-Ok-clause-yielded
returns-in-Ok-clause-yielded g c =
    yields_among c.append_replies.result c.args.self.now _ c.append_replies.new.self c.args.id (pass_before c.args.self.now.passes.by_id c.note_all.new.self.by_id c.args.id) (pass_after c.note_all.new.self.by_id c.args.id) c.args.batch.events.items c.in-Ok.replies.items c.in-Ok.ensures.answered (record { format = refl; lines = refl; noted = refl; pending = refl; pending_id = refl }) c.append_replies.ensures.added
