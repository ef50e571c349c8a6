use Rattle.std.proofs.Common.{Some, refl}
use Rattle.std.proofs.lemmas.Result.{on_ok_weaker}
use Rattle.scrib_core.specs.declared.format.Format.TheVariants as format
use Rattle.scrib_core.specs.Held.{state_of}
use Rattle.scrib_script_reader.specs.declared.item.Item.TheVariants as item
use Rattle.scrib_cli.proofs.ItemLemmas.{step_written}
use Rattle.scrib_cli.proofs.item_output.gather_step.Goals as goal

pub returns-clause-ok : goal.returns-clause-ok
returns-clause-ok c =
    on_ok_weaker c.gather_reply.result (step_written c.args.output_mode (item.Step format.Line c.args.step) (state_of c.args.core.now) (state_of c.apply-reply.new.self) (Some c.args.gathered.now.bytes.items) (Some c.gather_reply.new.gathered.bytes.items) format.Line c.args.step c.apply-reply.result refl c.apply-reply.ensures.answered) c.gather_reply.ensures.ok
