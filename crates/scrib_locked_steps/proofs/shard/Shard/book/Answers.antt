use Rattle.std.proofs.Common.{arith}
use Rattle.scrib_locked_steps.proofs.ShardLemmas.{book_small}
use Rattle.scrib_locked_steps.proofs.shard.Shard.book.Goals as goal

pub returns-clause-small : goal.returns-clause-small
returns-clause-small c = let small = book_small c.self.inside.capacity c.self.inside.records.entries c.self.inside.directory.index.entries c.self.inside.book c.self.invariant in omega (arith, small)
