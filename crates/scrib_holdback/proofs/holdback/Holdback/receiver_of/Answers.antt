use Rattle.scrib_holdback.proofs.HoldbackLemmas.{receiver}
use Rattle.scrib_holdback.proofs.holdback.Holdback.receiver_of.Goals as goal

pub returns-in-Sent : goal.returns-in-Sent
returns-in-Sent g c =
    rw (c.in-Sent.is, ← c.self.view_is) (receiver g.A.Arrival.event _ c.in-Sent.from c.in-Sent.to c.in-Sent.message c.place_of.result c.place_of.ensures)
