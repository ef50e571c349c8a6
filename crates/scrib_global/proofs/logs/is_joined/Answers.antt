use Rattle.std.proofs.Common.{◌∙◌, sym}
use Rattle.scrib_global.proofs.LogPrefixes.{test_is}
use Rattle.scrib_global.proofs.logs.is_joined.Goals as goal

pub returns-in-Sent : goal.returns-in-Sent
returns-in-Sent c = rw (sym c.get.ensures ∙ c.in-Sent.is) (test_is c.has_joined-in-Sent.result _ c.has_joined-in-Sent.ensures)

pub returns-in-Received : goal.returns-in-Received
returns-in-Received c = rw (sym c.get.ensures ∙ c.in-Received.is) (test_is c.has_joined-in-Received.result _ c.has_joined-in-Received.ensures)
