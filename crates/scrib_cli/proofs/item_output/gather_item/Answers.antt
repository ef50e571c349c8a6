use Rattle.std.proofs.Common.{Some}
use Rattle.std.proofs.lemmas.Result.{on_ok_weaker}
use Rattle.scrib_core.specs.Held.{state_of}
use Rattle.scrib_cli.proofs.ItemLemmas.{step_written, bad_line_written, end_written}
use Rattle.scrib_cli.proofs.item_output.gather_item.Goals as goal

pub returns-in-Step-clause-ok : goal.returns-in-Step-clause-ok
returns-in-Step-clause-ok c =
    on_ok_weaker c.gather_reply.result (step_written c.args.output_mode c.args.item (state_of c.args.core.now) (state_of c.apply-reply.new.self) (Some c.args.gathered.now.bytes.items) (Some c.gather_reply.new.gathered.bytes.items) c.in-Step.asked c.in-Step.step c.apply-reply.result c.in-Step.is c.apply-reply.ensures.answered) c.gather_reply.ensures.ok

pub returns-in-BadLine-clause-ok : goal.returns-in-BadLine-clause-ok
returns-in-BadLine-clause-ok c =
    on_ok_weaker c.gather_bad_line.result (bad_line_written c.args.output_mode c.args.item (state_of c.args.core.now) (Some c.args.gathered.now.bytes.items) (Some c.gather_bad_line.new.gathered.bytes.items) c.in-BadLine.number c.in-BadLine.is) c.gather_bad_line.ensures.ok

pub returns-in-EndOfText-clause-ok : goal.returns-in-EndOfText-clause-ok
returns-in-EndOfText-clause-ok c =
    on_ok_weaker c.gather_end.result (end_written c.args.output_mode c.args.item (state_of c.args.core.now) (Some c.args.gathered.now.bytes.items) (Some c.gather_end.new.gathered.bytes.items) c.in-EndOfText.is) c.gather_end.ensures.ok
