use Rattle.std.proofs.Common.{Some}
use Rattle.std.proofs.lemmas.Result.{on_ok_weaker}
use Rattle.scrib_cli.proofs.ItemLemmas.{shown_silently}
use Rattle.scrib_cli.proofs.item_output.gather_reply.Goals as goal

pub returns-in-Silent-clause-ok : goal.returns-in-Silent-clause-ok
returns-in-Silent-clause-ok c =
    on_ok_weaker c.check_memory.result
    (shown_silently c.args.output_mode c.args.asked c.args.reply.now (Some c.args.gathered.now.bytes.items) c.in-Silent.is)
    c.check_memory.ensures.ok
