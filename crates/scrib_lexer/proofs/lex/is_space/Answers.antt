use Rattle.std.proofs.Common.{nat_eq, get_or, refl, arith}
use Rattle.scrib_lexer.specs.Words.{is_space}
use Rattle.scrib_lexer.specs.declared.lex.TheConstants.{CLASSES}
use Rattle.scrib_lexer.proofs.Classes.{agree_below, agree_at}
use Rattle.scrib_lexer.proofs.lex.is_space.Goals as goal

pub returns : goal.returns
unfolding agree_below
returns c = agree_at (λ k. nat_eq (get_or CLASSES k 0) 46) is_space 256 refl c.args.byte (omega arith)
