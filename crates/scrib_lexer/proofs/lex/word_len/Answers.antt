use Rattle.scrib_lexer.proofs.Words.{all_word-take_more}
use Rattle.std.proofs.Common.{arith}
use Rattle.scrib_lexer.proofs.lex.word_len.Goals as goal

pub loop-i-preserved : goal.loop-i-preserved
loop-i-preserved c = all_word-take_more c.args.text.now c.loop-i.i (omega arith) (cc) c.loop-i.invariant
