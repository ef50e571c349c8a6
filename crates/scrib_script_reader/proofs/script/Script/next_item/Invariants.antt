use Rattle.std.proofs.Common.{[], ◌≤◌, length}
use Rattle.scrib_script_reader.specs.Positions.{TakesFront}
use Rattle.scrib_script_reader.proofs.script.Script.next_item.Given as goal

abbrev pub invariant-loop-self : goal.invariant-loop-self
invariant-loop-self l = record {
  taken : TakesFront l.fn.self l.self l.piece l.rest [];
  within : length l.rest ≤ length l.piece;
}

abbrev pub decreases-loop-self : goal.decreases-loop-self
decreases-loop-self l = length l.rest
