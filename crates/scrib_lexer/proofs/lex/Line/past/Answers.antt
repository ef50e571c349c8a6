use Rattle.std.proofs.Common.{◌+◌, refl, ne_eqb, arith}
use Rattle.scrib_lexer.proofs.Spots.{next_line, same_line}
use Rattle.scrib_lexer.proofs.lex.Line.past.Goals as goal

pub returns-then-byte-eq10-clause-spot : goal.returns-then-byte-eq10-clause-spot
returns-then-byte-eq10-clause-spot c =
    next_line c.args.self c.args.index (c.args.index + 1) c.args.byte (omega arith) refl

pub returns-else-byte-eq10-clause-spot : goal.returns-else-byte-eq10-clause-spot
returns-else-byte-eq10-clause-spot c =
    same_line c.args.self c.args.index c.args.byte c.requires.within (ne_eqb _ _ c.if-byte-eq10.false)
