use Rattle.scrib_holdback.proofs.ReleaseLemmas.{pushes_if_ok, same_if_err}
use Rattle.scrib_holdback.proofs.holdback.Holdback.push_among.Goals as goal

pub returns-clause-ok : goal.returns-clause-ok
returns-clause-ok g c =
    pushes_if_ok g.A.Arrival.event c.args.arrival c.args.self.now c.meet.new.self c.push_at.new.self c.args.released.now.items c.push_at.new.released.items
    c.push_at.result c.meet.ensures.same c.push_at.ensures.ok

pub returns-clause-err : goal.returns-clause-err
returns-clause-err g c =
    same_if_err g.A.Arrival.event c.args.self.now c.meet.new.self c.push_at.new.self c.push_at.result c.meet.ensures.same c.push_at.ensures.err
