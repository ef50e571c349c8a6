use Rattle.std.proofs.Common.{◌≡◌, true, take}
use Rattle.scrib_objects.specs.ExchangeObjects.{all_plain}
use Rattle.scrib_objects.proofs.exchange_object.plain_len.Given as goal

abbrev pub invariant-loop-at : goal.invariant-loop-at
invariant-loop-at l = all_plain (take l.at l.bytes) ≡ true
