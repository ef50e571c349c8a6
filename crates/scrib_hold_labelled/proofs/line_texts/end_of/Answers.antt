use Rattle.std.proofs.Common.{◌∙◌, sym}
use Rattle.scrib_hold_labelled.proofs.TextLemmas.{end_cr, end_other}
use Rattle.scrib_hold_labelled.proofs.line_texts.end_of.Goals as goal

pub returns-then-ends_with : goal.returns-then-ends_with
returns-then-ends_with c = end_cr c.args.text.now c.as_slice.result.now (sym c.ends_with.ensures ∙ c.if-ends_with.true) c.as_slice.ensures

pub returns-else-ends_with : goal.returns-else-ends_with
returns-else-ends_with c = end_other c.args.text.now c.as_slice-else-ends_with.result.now (sym c.ends_with.ensures ∙ c.if-ends_with.false) c.as_slice-else-ends_with.ensures
