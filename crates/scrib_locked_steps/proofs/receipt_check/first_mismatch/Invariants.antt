use Rattle.std.proofs.Common.{take}
use Rattle.scrib_locked_steps.specs.Receipts.{IsFirstMismatch}
use Rattle.scrib_locked_steps.proofs.receipt_check.first_mismatch.Given as goal

abbrev pub invariant-loop-receipt : goal.invariant-loop-receipt
invariant-loop-receipt l = IsFirstMismatch l.log (take l.receipt-index l.receipts) l.least
