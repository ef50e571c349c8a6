use Rattle.std.proofs.Common.{◌≡◌, ◌++◌, drop}
use Rattle.scrib_report.specs.Table.{rows_text}
use Rattle.scrib_report.proofs.table.push_rows.Given as goal

abbrev pub invariant-loop-ended : goal.invariant-loop-ended
invariant-loop-ended l =
    l.out.items ++ rows_text (drop l.ended-index l.list) ≡ l.fn.out.items ++ rows_text l.list
