use Rattle.std.proofs.Common.{◌<◌, ◌∙◌, length, take, sym, arith, true≢false}
use Rattle.scrib_locked_steps.proofs.MismatchLemmas.{take_one, stray_right, stray_wrong}
use Rattle.scrib_locked_steps.proofs.receipt_check.first_mismatch.Goals as goal
use Rattle.scrib_locked_steps.proofs.receipt_check.first_mismatch.Goals.{then-not-is_entry, else-not-is_entry}

pub loop-receipt-preserved : goal.loop-receipt-preserved
loop-receipt-preserved c =
    let i = c.loop-receipt.receipt-index in
    let rs = take i c.args.receipts.now in
    let within : i < length c.args.receipts.now = omega arith in
    rw (take_one c.args.receipts.now i c.receipt-item.result within c.receipt-item.is) (elim c.if-not-is_entry.branch [
      | then-not-is_entry w ↦
          rw (w.least-is, w.min_place.ensures) (stray_wrong c.args.log.now rs c.receipt-item.result c.loop-receipt.least c.loop-receipt.invariant
          (λ agrees. true≢false (sym (c.is_entry.ensures.1 agrees) ∙ w.if-not-is_entry.true)))
      | else-not-is_entry w ↦
          rw w.least-is (stray_right c.args.log.now rs c.receipt-item.result c.loop-receipt.least c.loop-receipt.invariant (c.is_entry.ensures.0 w.if-not-is_entry.false))
    ])
