use Rattle.scrib_locked_steps.proofs.ShardLemmas.{turn_keeps}
use Rattle.scrib_locked_steps.proofs.step_results.turn_step.Goals as goal

pub invariant_of-shard : goal.invariant_of-shard
invariant_of-shard c =
    turn_keeps c.shard.inside.capacity c.args.library.now c.shard.inside.records.entries c.args.id c.turn.result c.turn.new.records.entries c.shard.inside.directory.index.entries c.shard.inside.book
    c.turn.ensures.ok c.turn.ensures.err c.shard.invariant
