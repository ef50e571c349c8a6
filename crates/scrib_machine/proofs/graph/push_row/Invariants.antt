use Rattle.std.proofs.Common.{◌≡◌, ◌++◌, drop}
use Rattle.scrib_machine.specs.Graph.{lines_from}
use Rattle.scrib_machine.proofs.graph.push_row.Given as goal

abbrev pub invariant-loop-edge : goal.invariant-loop-edge
invariant-loop-edge l = l.out.items ++ lines_from l.number (drop l.edge-index l.edges) ≡ l.fn.out.items ++ lines_from l.number l.edges
