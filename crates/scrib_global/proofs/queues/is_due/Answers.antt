use Rattle.std.proofs.Common.{◌∙◌, sym}
use Rattle.scrib_global.proofs.LogPrefixes.{due_from}
use Rattle.scrib_global.proofs.queues.is_due.Goals as goal

pub returns-in_ok-received-in-Received : goal.returns-in_ok-received-in-Received
returns-in_ok-received-in-Received c =
    rw (sym c.get.ensures ∙ c.in-Received.is) (due_from c.is_prefix.result _ _ _ _ c.is_prefix.ensures (c.deref.ensures.value ∙ c.in_ok-received-in-Received.ensures) (c.deref-in-Received.ensures.value ∙ c.in_ok-sent-in-Received.ensures))
