use Rattle.scrib_lexer.proofs.Lines.{line_end}
use Rattle.scrib_lexer.proofs.lex.line_len.Goals as goal

pub returns-clause-within : goal.returns-clause-within
returns-clause-within c =
    rw c.unwrap_or.ensures ((line_end c.args.text.now c.memchr.result c.memchr.ensures).within)

pub returns-clause-line : goal.returns-clause-line
returns-clause-line c =
    rw c.unwrap_or.ensures ((line_end c.args.text.now c.memchr.result c.memchr.ensures).line)

pub returns-clause-longest : goal.returns-clause-longest
returns-clause-longest c =
    rw c.unwrap_or.ensures ((line_end c.args.text.now c.memchr.result c.memchr.ensures).longest)
