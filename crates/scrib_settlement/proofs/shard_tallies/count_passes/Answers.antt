use Rattle.std.proofs.Common.{◌∙◌, take, arith}
use Rattle.scrib_settlement.proofs.ShardTallyLemmas.{take_step}
use Rattle.scrib_settlement.proofs.shard_tallies.count_passes.Goals as goal

pub loop-pass-preserved : goal.loop-pass-preserved
loop-pass-preserved c = record {
  size = c.count_pass.ensures.size ∙ c.loop-pass.invariant.size;
  counted = λ fresh. rw (take_step c.args.passes.now c.loop-pass.pass-index c.pass-item.result (omega arith) c.pass-item.is)
      (c.count_pass.ensures.counted (take c.loop-pass.pass-index c.args.passes.now) (c.loop-pass.invariant.counted fresh));
}
