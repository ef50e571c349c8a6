use Rattle.std.proofs.Common.{◌≡◌, max, drop}
use Rattle.scrib_show.specs.ShownLines.{most_digits}
use Rattle.scrib_show.proofs.events.most_digits.Given as goal

abbrev pub invariant-loop-number : goal.invariant-loop-number
invariant-loop-number l = max l.most (most_digits (drop l.number-index l.numbers)) ≡ most_digits l.numbers
