use Rattle.std.proofs.Common.{◌≡◌, drop}
use Rattle.scrib_lexer.specs.Steps.{close_in}
use Rattle.scrib_lexer.proofs.Quotes.{on_by}
use Rattle.scrib_lexer.proofs.lex.close_in.Given as goal

abbrev pub invariant-loop-i : goal.invariant-loop-i
invariant-loop-i l = close_in l.text ≡ on_by l.i (close_in (drop l.i l.text))
