use Rattle.std.proofs.Common.{[], arith}
use Rattle.scrib_library.proofs.Orders.{cmp_longer, cmp_shorter}
use Rattle.scrib_library.proofs.names.compare_all.Goals as goal

pub returns-then-i-b : goal.returns-then-i-b
returns-then-i-b c =
    cmp_longer c.args.a.now c.args.b.now c.loop-i.i [] c.loop-i-test.true c.if-i-b.true c.loop-i.invariant.alike

pub returns-then-a-b : goal.returns-then-a-b
returns-then-a-b c =
    cmp_shorter c.args.a.now c.args.b.now c.loop-i.i [] c.loop-i-test.false (omega arith) c.loop-i.invariant.alike
