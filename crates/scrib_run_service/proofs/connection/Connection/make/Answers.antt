use Rattle.std.proofs.Common.{inl, refl}
use Rattle.scrib_script_reader.specs.declared.item.Item.TheVariants as item
use Rattle.scrib_run_service.specs.Outcomes.{replied}
use Rattle.scrib_run_service.proofs.ConnectionLemmas.{yields_one}
use Rattle.scrib_run_service.proofs.connection.Connection.make.Goals as goal

pub returns-clause-yielded : goal.returns-clause-yielded
returns-clause-yielded g c =
    yields_one c.append_reply.result c.args.self.now _ c.append_reply.new.self (item.Step c.args.asked c.args.step) (replied c.args.asked c.make_step-reply.result)
    (refl, c.requires, inl (c.args.self.now.passes.by_id.entries, c.make_step-reply.ensures)) (record { format = refl; lines = refl; noted = refl; pending = refl; pending_id = refl }) c.append_reply.ensures.added
