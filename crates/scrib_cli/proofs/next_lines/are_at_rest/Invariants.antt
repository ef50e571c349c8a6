use Rattle.std.proofs.Common.{◌≡◌, drop}
use Rattle.scrib_cli.specs.NextLines.{are_at_rest}
use Rattle.scrib_cli.proofs.next_lines.are_at_rest.Given as goal

abbrev pub invariant-loop-status : goal.invariant-loop-status
invariant-loop-status l = are_at_rest (drop l.status-index l.roles) ≡ are_at_rest l.roles
