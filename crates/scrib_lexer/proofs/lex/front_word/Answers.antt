use Rattle.std.proofs.Common.{arith}
use Rattle.scrib_lexer.proofs.Steps.{word_fault}
use Rattle.scrib_lexer.proofs.lex.front_word.Goals as goal

pub returns-then-len-gt-MAX_NAME_BYTES-clause-fault :
    goal.returns-then-len-gt-MAX_NAME_BYTES-clause-fault
returns-then-len-gt-MAX_NAME_BYTES-clause-fault c =
    word_fault c.args.text.now c.word_len-len.result c.args.at c.requires.letter (omega arith) c.word_len-len.ensures.word c.word_len-len.ensures.longest (omega arith)
