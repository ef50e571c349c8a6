use Rattle.std.proofs.Common.{◌≡◌, true, take}
use Rattle.scrib_types.specs.Names.{all_word}
use Rattle.scrib_lexer.proofs.lex.word_len.Given as goal

abbrev pub invariant-loop-i : goal.invariant-loop-i
invariant-loop-i l = all_word (take l.i l.text) ≡ true
