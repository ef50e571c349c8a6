use Rattle.std.proofs.Common.{◌≡◌, ◌++◌, false, drop}
use Rattle.scrib_show.specs.ChartLines.{arrow_lines, received}
use Rattle.scrib_show.proofs.arrows.push_received.Given as goal

abbrev pub invariant-loop-event : goal.invariant-loop-event
invariant-loop-event l =
    l.out.items ++ arrow_lines l.roles false (drop l.left (received (drop l.event-index l.log)))
    ≡ l.fn.out.items ++ arrow_lines l.roles false (drop l.left_out (received l.log))
