use Rattle.std.proofs.Common.{arith}
use Rattle.scrib_types.proofs.NumberLemmas.{number_written}
use Rattle.scrib_types.proofs.flat.push_number.Goals as goal

pub returns : goal.returns
returns c =
    number_written _ _ _ c.args.number c.loop.counter c.loop.invariant (omega arith) c.in_ok-push-2.ensures.items
