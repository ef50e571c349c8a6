use Rattle.std.proofs.Common.{◌≡◌, ◌≤◌, ◌-◌, length, take}
use Rattle.scrib_lexer.specs.Lexeme.{lexemes_of}
use Rattle.scrib_lexer.specs.Steps.{spot_in}
use Rattle.scrib_lexer.specs.Tokens.{spot_after}
use Rattle.scrib_lexer.proofs.ReadingLemmas.{IsRead}
use Rattle.scrib_lexer.proofs.lex.lex.Given as goal

abbrev pub invariant-loop-start : goal.invariant-loop-start
invariant-loop-start l = record {
  within : l.start ≤ length l.text;
  behind : l.line.start ≤ l.start;
  place : spot_in l.line l.start ≡ spot_after (take l.start l.text);
  read : IsRead l.text l.start (lexemes_of l.tokens.items);
}

abbrev pub decreases-loop-start : goal.decreases-loop-start
decreases-loop-start l = length l.initial.text - l.start
