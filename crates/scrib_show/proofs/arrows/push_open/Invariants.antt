use Rattle.std.proofs.Common.{◌≡◌, ◌++◌, true, drop}
use Rattle.scrib_show.specs.ChartLines.{arrow_lines}
use Rattle.scrib_show.proofs.arrows.push_open.Given as goal

abbrev pub invariant-loop-i : goal.invariant-loop-i
invariant-loop-i l =
    l.out.items ++ arrow_lines l.roles true (drop l.i l.flights)
    ≡ l.fn.out.items ++ arrow_lines l.roles true (drop l.left_out l.flights)
