use Rattle.std.proofs.Common.{◌≡◌, ◌≢◌, ◌∷◌, [], true, true≢false, sym, ◌∙◌}
use Rattle.scrib_locked_steps.specs.Receipts.{entry_at}
use Rattle.scrib_settlement.specs.Tallies.{is_due}
use Rattle.scrib_settlement.proofs.TallyLemmas.{counted_right, counted_wrong}
use Rattle.scrib_settlement.proofs.tally.Tally.count.Goals as goal
use Rattle.scrib_settlement.proofs.tally.Tally.count.Goals.{else-is_due-via-then-is_due+else-is_entry, else-is_due-via-else-is_due}

pub returns-then-is_entry : goal.returns-then-is_entry
returns-then-is_entry c seen counts =
    counted_right c.args.log.now seen c.args.receipt.now c.args.self.now.due.items c.args.self.now.wrong counts
    (sym c.is_due.ensures.due ∙ c.if-is_due.true) (c.is_due.ensures.within c.if-is_due.true) (c.is_entry.ensures.0 c.if-is_entry.true)

pub returns-else-is_due : goal.returns-else-is_due
returns-else-is_due c seen counts =
    let e = c.args.receipt.now in
    let bad : is_due e.place c.args.self.now.due.items ≡ true → entry_at e.place c.args.log.now ≢ e.event ∷ [] =
    elim c.else-is_due.branch [
      | else-is_due-via-then-is_due+else-is_entry w ↦ λ is entry. true≢false (sym (w.is_entry.ensures.1 entry) ∙ w.if-is_entry.false)
      | else-is_due-via-else-is_due w ↦ λ is entry. true≢false (sym is ∙ sym c.is_due.ensures.due ∙ w.if-is_due.false)
    ] in
    rw c.min_place.ensures (counted_wrong c.args.log.now seen e c.args.self.now.due.items c.args.self.now.wrong counts bad)
