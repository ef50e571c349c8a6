use Rattle.std.proofs.Common.{nat_le, get_or, refl, arith}
use Rattle.scrib_types.specs.Names.{is_word_byte}
use Rattle.scrib_lexer.specs.declared.lex.TheConstants.{CLASSES}
use Rattle.scrib_lexer.proofs.Classes.{agree_below, agree_at}
use Rattle.scrib_lexer.proofs.lex.in_word.Goals as goal

pub returns : goal.returns
unfolding agree_below
returns c = agree_at (λ k. nat_le 48 (get_or CLASSES k 0)) is_word_byte 256 refl c.args.byte (omega arith)
