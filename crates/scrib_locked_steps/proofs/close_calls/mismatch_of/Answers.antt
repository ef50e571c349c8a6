use Rattle.std.proofs.Common.{◌≡◌, ◌∙◌, ℕ, List, [], true, false, sym, subst}
use Rattle.scrib_core.specs.Held.{Records}
use Rattle.scrib_locked_steps.specs.declared.pass.Receipt.{Receipt}
use Rattle.scrib_locked_steps.specs.Openings.{is_current}
use Rattle.scrib_locked_steps.specs.Receipts.{IsFirstMismatch}
use Rattle.scrib_locked_steps.specs.Shards.{ShardHeld, log_at}
use Rattle.scrib_locked_steps.proofs.OpeningLemmas.{for_current, for_past}
use Rattle.scrib_locked_steps.proofs.close_calls.mismatch_of.Goals as goal

pub returns-then-is_current : goal.returns-then-is_current
returns-then-is_current c =
    let s = c.args.shard.now in
    let p = c.args.pass.now in
    let current : is_current s.openings p ≡ true = subst (λ (x : ShardHeld). is_current x.openings p ≡ true) c.shard.view_is (sym c.is_current.ensures ∙ c.if-is_current.true) in
    for_current (λ (rs : Records). IsFirstMismatch (log_at rs p.conversation) p.receipts c.stands_locked.result) s p current
    (subst (λ (xs : List Receipt). IsFirstMismatch (log_at s.records p.conversation) xs c.stands_locked.result) c.receipts.ensures.all
    (subst (λ (n : ℕ). IsFirstMismatch (log_at s.records n) c.receipts.result.now c.stands_locked.result) c.conversation.ensures c.stands_locked.ensures))

pub returns-else-is_current : goal.returns-else-is_current
returns-else-is_current c =
    let s = c.args.shard.now in
    let p = c.args.pass.now in
    let past : is_current s.openings p ≡ false = subst (λ (x : ShardHeld). is_current x.openings p ≡ false) c.shard.view_is (sym c.is_current.ensures ∙ c.if-is_current.false) in
    for_past (λ (rs : Records). IsFirstMismatch (log_at rs p.conversation) p.receipts c.first_mismatch.result) s p past
    (subst (λ (xs : List Receipt). IsFirstMismatch (log_at [] p.conversation) xs c.first_mismatch.result) c.receipts-else-is_current.ensures.all c.first_mismatch.ensures)
