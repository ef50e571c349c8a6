use Rattle.scrib_holdback.proofs.ReleaseLemmas.{after_nothing}
use Rattle.scrib_holdback.proofs.holdback.Holdback.new.Goals as goal

pub returns : goal.returns
returns g c =
    after_nothing g.A.Arrival.event record { roles = c.new.result.roles; waiting = c.new.result.items; flights = c.new-2.result.items }
    c.new.ensures.items c.new-2.ensures.items
