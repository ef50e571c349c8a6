use Rattle.std.proofs.Common.{◌≡◌, take}
use Rattle.scrib_parser.proofs.names.NameInterner.names.Given as goal

abbrev pub invariant-loop-word : goal.invariant-loop-word
invariant-loop-word l = l.names.items ≡ take l.word-index l.words
