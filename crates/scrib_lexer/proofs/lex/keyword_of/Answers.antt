use Rattle.std.proofs.Common.{arith, refl}
use Rattle.std.specs.Prelude.{codes}
use Rattle.std.proofs.lemmas.Slice.Eq.{text_from_reads}
use Rattle.scrib_lexer.proofs.Words.{keyword_at}
use Rattle.scrib_lexer.proofs.lex.keyword_of.Goals as goal

pub returns-in-module : goal.returns-in-module
returns-in-module c =
    keyword_at c.args.word.now (codes "module") _ (text_from_reads c.args.word.now (codes "module") (omega arith) (omega arith, (omega arith, (omega arith, (omega arith, (omega arith, (omega arith, tt))))))) refl

pub returns-in-import : goal.returns-in-import
returns-in-import c =
    keyword_at c.args.word.now (codes "import") _ (text_from_reads c.args.word.now (codes "import") (omega arith) (omega arith, (omega arith, (omega arith, (omega arith, (omega arith, (omega arith, tt))))))) refl

pub returns-in-global : goal.returns-in-global
returns-in-global c =
    keyword_at c.args.word.now (codes "global") _ (text_from_reads c.args.word.now (codes "global") (omega arith) (omega arith, (omega arith, (omega arith, (omega arith, (omega arith, (omega arith, tt))))))) refl

pub returns-in-choice : goal.returns-in-choice
returns-in-choice c =
    keyword_at c.args.word.now (codes "choice") _ (text_from_reads c.args.word.now (codes "choice") (omega arith) (omega arith, (omega arith, (omega arith, (omega arith, (omega arith, (omega arith, tt))))))) refl

pub returns-in-protocol : goal.returns-in-protocol
returns-in-protocol c =
    keyword_at c.args.word.now (codes "protocol") _ (text_from_reads c.args.word.now (codes "protocol") (omega arith) (omega arith, (omega arith, (omega arith, (omega arith, (omega arith, (omega arith, (omega arith, (omega arith, tt))))))))) refl

pub returns-in-continue : goal.returns-in-continue
returns-in-continue c =
    keyword_at c.args.word.now (codes "continue") _ (text_from_reads c.args.word.now (codes "continue") (omega arith) (omega arith, (omega arith, (omega arith, (omega arith, (omega arith, (omega arith, (omega arith, (omega arith, tt))))))))) refl
