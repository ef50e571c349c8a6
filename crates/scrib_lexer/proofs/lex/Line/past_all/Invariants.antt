use Rattle.std.proofs.Common.{◌≡◌, ◌+◌, ◌≤◌, drop}
use Rattle.scrib_lexer.specs.Steps.{spot_in, spot_past_all}
use Rattle.scrib_lexer.proofs.lex.Line.past_all.Given as goal

abbrev pub invariant-loop-i : goal.invariant-loop-i
invariant-loop-i l = record {
  within : l.line.start ≤ l.index + l.i;
  number : l.line.number ≤ l.initial.line.number + l.i;
  same : spot_past_all (spot_in l.line (l.index + l.i)) (drop l.i l.bytes) ≡ spot_past_all (spot_in l.initial.line l.index) l.bytes;
}
