use Rattle.std.proofs.Common.{◌∙◌, sym}
use Rattle.scrib_record.proofs.configuration.Configuration.advance.Goals as goal

pub returns-in-Join-clause-ok : goal.returns-in-Join-clause-ok
returns-in-Join-clause-ok c = rw (sym c.get.ensures ∙ c.in-Join.is) c.join.ensures

pub send-requires : goal.send-requires
send-requires c = record { reached = c.requires; sent = (_, _, _, sym c.get.ensures ∙ c.in-Sent.is) }

pub receive-requires : goal.receive-requires
receive-requires c = record { reached = c.requires; received = (_, _, _, sym c.get.ensures ∙ c.in-Received.is) }
