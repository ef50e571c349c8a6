use Rattle.std.proofs.Common.{◌≡◌, ◌++◌, drop}
use Rattle.scrib_machine.specs.Graph.{state_lines}
use Rattle.scrib_machine.proofs.graph.push_states.Given as goal

abbrev pub invariant-loop-i : goal.invariant-loop-i
invariant-loop-i l = l.out.items ++ state_lines l.i (drop l.i l.rows) ≡ l.fn.out.items ++ state_lines 0 l.rows
