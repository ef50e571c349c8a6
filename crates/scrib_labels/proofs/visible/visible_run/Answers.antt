use Rattle.std.proofs.Common.{◌∙◌, ap, ◌+◌, arith}
use lib.Count.{count_trailing_zeros}
use Rattle.scrib_labels.proofs.VisibleLemmas.{front_ends, front_longer}
use Rattle.scrib_labels.proofs.visible.visible_run.Goals as goal

pub returns-then-found-ne0 : goal.returns-then-found-ne0
returns-then-found-ne0 c =
    ap (λ m. c.loop-at.at + count_trailing_zeros 64 m) c.others-found.ensures
    ∙ front_ends c.args.bytes.now c.loop-at.at (omega arith) c.loop-at.invariant.1 (omega (arith, c.others-found.ensures))

pub loop-at-preserved : goal.loop-at-preserved
loop-at-preserved c = (
  omega arith,
  front_longer c.args.bytes.now c.loop-at.at (omega arith) c.loop-at.invariant.1 (omega (arith, c.others-found.ensures)),
)
