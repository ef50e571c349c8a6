use Rattle.std.proofs.Common.{ap, arith}
use lib.Count.{count_trailing_zeros}
use Rattle.scrib_labels.proofs.VisibleLemmas.{front_ends, run_short}
use Rattle.scrib_labels.proofs.visible.short_visible_run.Goals as goal

pub returns-clause-run : goal.returns-clause-run
returns-clause-run c =
    let same = ap (count_trailing_zeros 64) c.others-found.ensures in
    let ends = front_ends c.args.bytes.now 0 (omega arith) (λ k none. absurd (omega arith)) (omega (arith, c.others-found.ensures)) in
    omega (arith, same, ends)

pub returns-clause-few : goal.returns-clause-few
returns-clause-few c =
    let same = ap (count_trailing_zeros 64) c.others-found.ensures in
    omega (arith, same, run_short c.args.bytes.now 0 (omega arith) (omega (arith, c.others-found.ensures)))
