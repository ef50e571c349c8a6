use Rattle.std.proofs.Common.{◌≡◌, take}
use Rattle.scrib_parser.proofs.sorts.are_words.Given as goal

abbrev pub invariant-loop-i : goal.invariant-loop-i
invariant-loop-i l = take l.i l.names ≡ take l.i l.words
