use Rattle.std.proofs.Common.{◌≡◌, drop}
use Rattle.scrib_types.specs.Names.{all_word}
use Rattle.scrib_types.proofs.name.all_word.Given as goal

abbrev pub invariant-loop-byte : goal.invariant-loop-byte
invariant-loop-byte l = all_word (drop l.byte-index l.bytes) ≡ all_word l.bytes
