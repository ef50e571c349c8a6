use Rattle.scrib_hold_lines.proofs.LineGivings.{end_of_cr, end_of_other}
use Rattle.scrib_hold_lines.proofs.line_reader.missing_end.Goals as goal

pub returns-then-last-eq13 : goal.returns-then-last-eq13
returns-then-last-eq13 c = end_of_cr c.args.line.now c.as_slice-then-last-eq13.result.now c.requires c.as_slice-then-last-eq13.ensures

pub returns-else-last-eq13 : goal.returns-else-last-eq13
returns-else-last-eq13 c =
    end_of_other c.args.line.now c.in-Some.field-0-1.now c.in-Some.last.now c.as_slice-else-last-eq13.result.now c.requires c.in-Some.ensures.cases.0 c.if-last-eq13.false c.as_slice-else-last-eq13.ensures
