use Rattle.scrib_global.proofs.LogPrefixes.{prefix_of}
use Rattle.scrib_global.proofs.queues.is_prefix.Goals as goal

pub returns-then-a-b : goal.returns-then-a-b
returns-then-a-b c = prefix_of c.messages_equal.result c.args.a.now c.args.b.now c.if-a-b.true c.messages_equal.ensures
