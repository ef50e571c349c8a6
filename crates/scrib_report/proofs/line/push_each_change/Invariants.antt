use Rattle.std.proofs.Common.{◌≡◌, ◌++◌, drop}
use Rattle.scrib_report.specs.Lines.{change_texts}
use Rattle.scrib_report.proofs.line.push_each_change.Given as goal

abbrev pub invariant-loop-change : goal.invariant-loop-change
invariant-loop-change l =
    l.out.items ++ change_texts (drop l.change-index l.changes) ≡ l.fn.out.items ++ change_texts l.changes
