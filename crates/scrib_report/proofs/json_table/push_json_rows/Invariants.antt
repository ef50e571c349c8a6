use Rattle.std.proofs.Common.{◌≡◌, ◌++◌, drop}
use Rattle.scrib_report.specs.Json.{ended_lines}
use Rattle.scrib_report.proofs.json_table.push_json_rows.Given as goal

abbrev pub invariant-loop-ended : goal.invariant-loop-ended
invariant-loop-ended l =
    l.out.items ++ ended_lines (drop l.ended-index l.list) ≡ l.fn.out.items ++ ended_lines l.list
