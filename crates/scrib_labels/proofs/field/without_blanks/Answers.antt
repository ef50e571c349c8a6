use Rattle.std.proofs.Common.{◌∙◌, sym}
use Rattle.scrib_labels.proofs.FieldLemmas.{skip_at}
use Rattle.scrib_labels.proofs.field.without_blanks.Goals as goal

pub loop-at-preserved : goal.loop-at-preserved
loop-at-preserved c = sym (skip_at c.args.line.now c.loop-at.at c.loop-at-test.true (sym c.is_blank.ensures ∙ c.if-not-is_blank.false)) ∙ c.loop-at.invariant
