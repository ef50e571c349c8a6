use Rattle.std.proofs.Common.{◌≡◌, ◌++◌, drop}
use Rattle.scrib_cli.specs.NextLines.{next_lines}
use Rattle.scrib_cli.proofs.next_lines.push_lines.Given as goal

abbrev pub invariant-loop-status : goal.invariant-loop-status
invariant-loop-status l =
    l.out.items ++ next_lines (drop l.status-index l.roles) ≡ l.fn.out.items ++ next_lines l.roles
