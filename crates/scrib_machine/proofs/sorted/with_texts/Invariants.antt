use Rattle.std.proofs.Common.{◌≡◌}
use Rattle.scrib_machine.specs.Layout.{printed_edges, AllPrinted}
use Rattle.scrib_machine.proofs.sorted.with_texts.Given as goal

abbrev pub invariant-loop-edge : goal.invariant-loop-edge
invariant-loop-edge l = (printed_edges l.list.items ≡ l.yielded) × AllPrinted l.list.items
