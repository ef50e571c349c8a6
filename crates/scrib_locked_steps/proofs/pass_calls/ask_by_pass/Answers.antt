use Rattle.std.proofs.Common.{ℕ, List, All, subst}
use Rattle.scrib_locked_steps.specs.declared.pass.Receipt.{Receipt}
use Rattle.scrib_locked_steps.specs.Receipts.{AgreesWith}
use Rattle.scrib_locked_steps.specs.Shards.{log_at}
use Rattle.scrib_locked_steps.specs.Locked.{IsAskedFor}
use Rattle.scrib_locked_steps.proofs.ReceiptLemmas.{answered}
use Rattle.scrib_locked_steps.proofs.pass_calls.ask_by_pass.Goals as goal

pub returns-in-Ok-clause-answered : goal.returns-in-Ok-clause-answered
returns-in-Ok-clause-answered c =
    let rs = c.args.shard.now.records in
    let p = c.args.pass.now in
    answered c.args.library.now rs p c.in-Ok.judged.told (record {
      stood = subst (λ (i : ℕ). All (AgreesWith (log_at rs i)) p.receipts) c.conversation-id.ensures
          (subst (λ (xs : List Receipt). All (AgreesWith (log_at rs c.conversation-id.result)) xs) c.receipts.ensures.all c.in_default.ensures);
      asked = subst (λ (i : ℕ). IsAskedFor c.args.library.now rs i c.in-Ok.judged.told) c.conversation-id.ensures (c.in-Ok.judged.name, c.in-Ok.judged.events, c.in-Ok.ensures.ok);
    })
