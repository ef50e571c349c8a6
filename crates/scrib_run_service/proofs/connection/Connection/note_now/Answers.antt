use Rattle.std.proofs.Common.{inl, refl}
use Rattle.scrib_core.specs.declared.format.Format.TheVariants as format
use Rattle.scrib_script_reader.specs.declared.item.Item.TheVariants as item
use Rattle.scrib_core.specs.declared.step.Step.TheVariants as step
use Rattle.scrib_client.specs.ConnectionPasses.{pass_after}
use Rattle.scrib_client.specs.ServiceReplies.{noted_reply}
use Rattle.scrib_run_service.specs.Outcomes.{replied}
use Rattle.scrib_run_service.proofs.ConnectionLemmas.{yields_one}
use Rattle.scrib_run_service.proofs.connection.Connection.note_now.Goals as goal

pub returns-clause-yielded : goal.returns-clause-yielded
returns-clause-yielded g c =
    yields_one c.append_noted.result c.args.self.now _ c.append_noted.new.self (item.Step format.Line (step.Note c.args.id c.args.event)) (replied format.Line (noted_reply c.args.id c.note-reply.result))
    (refl, refl, inl (c.args.self.now.passes.by_id.entries, ((pass_after c.note-reply.new.self.by_id c.args.id).opening, c.note-reply.result, refl, c.note-reply.ensures.noted, c.note-reply.ensures.fault))) (record { format = refl; lines = refl; noted = refl; pending = refl; pending_id = refl }) c.append_noted.ensures.added
