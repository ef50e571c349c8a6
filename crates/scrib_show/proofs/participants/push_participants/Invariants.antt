use Rattle.std.proofs.Common.{◌≡◌, ◌++◌, ◌+◌, drop}
use Rattle.scrib_show.specs.ChartLines.{participants}
use Rattle.scrib_show.proofs.participants.push_participants.Given as goal

abbrev pub invariant-loop-i : goal.invariant-loop-i
invariant-loop-i l =
    l.out.items ++ participants (l.i + 1) (drop l.i l.roles) ≡ l.fn.out.items ++ participants 1 l.roles
