use Rattle.std.proofs.Common.{arith}
use Rattle.scrib_settlement.proofs.MismatchLemmas.{there_more}
use Rattle.scrib_settlement.proofs.settle.first_missing_conversation.Goals as goal

pub loop-pass-preserved : goal.loop-pass-preserved
loop-pass-preserved c =
    rw c.earlier-least.ensures (there_more c.args.shards.now c.args.passes.now c.loop-pass.pass-index c.pass-item.result c.loop-pass.least c.missing_conversation.result
    (omega arith) c.pass-item.is c.loop-pass.invariant c.missing_conversation.ensures)
