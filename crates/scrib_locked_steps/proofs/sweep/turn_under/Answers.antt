use Rattle.std.specs.Option.{option_copied}
use Rattle.scrib_locked_steps.proofs.ShardLemmas.{turn_under_keeps}
use Rattle.scrib_locked_steps.proofs.sweep.turn_under.Goals as goal

pub invariant_of-shard : goal.invariant_of-shard
invariant_of-shard c =
    turn_under_keeps c.shard.inside.capacity (option_copied c.args.present) c.shard.inside.records.entries c.args.id c.turn_in_records.result c.turn_in_records.new.records.entries c.shard.inside.directory.index.entries c.shard.inside.book
    c.turn_in_records.ensures.ok c.turn_in_records.ensures.err c.shard.invariant
