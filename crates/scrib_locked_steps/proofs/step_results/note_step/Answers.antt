use Rattle.std.proofs.Common.{arith}
use Rattle.scrib_locked_steps.proofs.ShardLemmas.{book_small, note_keeps, stored_same}
use Rattle.scrib_locked_steps.proofs.step_results.note_step.Goals as goal

pub overflow_add-shard : goal.overflow_add-shard
overflow_add-shard c = omega (arith, book_small c.shard.inside.capacity c.shard.inside.records.entries c.shard.inside.directory.index.entries c.shard.inside.book c.shard.invariant)

pub invariant_of-shard-2 : goal.invariant_of-shard-2
invariant_of-shard-2 c =
    note_keeps c.shard.inside.capacity c.args.library.now c.shard.inside.records.entries c.args.id c.args.event c.in_ok-noted.noted.place c.in_ok-noted.noted.told c.note.new.records.entries
    c.shard.inside.directory.index.entries c.shard.inside.book c.in_ok-noted.ensures.ok c.shard.invariant

pub invariant_of-shard : goal.invariant_of-shard
invariant_of-shard c = stored_same c.shard.inside.capacity c.shard.inside.records.entries c.note.new.records.entries c.shard.inside.directory.index.entries c.shard.inside.book c.in_err-noted.ensures.err c.shard.invariant
