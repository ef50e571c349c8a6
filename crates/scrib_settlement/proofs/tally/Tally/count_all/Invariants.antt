use Rattle.std.proofs.Common.{◌++◌, List, take}
use Rattle.scrib_locked_steps.specs.declared.pass.Receipt.{Receipt}
use Rattle.scrib_settlement.specs.Tallies.{IsTallyOf}
use Rattle.scrib_settlement.proofs.tally.Tally.count_all.Given as goal

abbrev pub invariant-loop-receipt : goal.invariant-loop-receipt
invariant-loop-receipt l = (seen : List Receipt) → IsTallyOf l.log seen l.initial.self.due.items l.initial.self.wrong
    → IsTallyOf l.log (seen ++ take l.receipt-index l.receipts) l.self.due.items l.self.wrong
