use Rattle.scrib_queues.proofs.QueueViews.{empty_test}
use Rattle.scrib_queues.proofs.queues.Queues.are_empty.Goals as goal

pub returns : goal.returns
returns g c =
    let is = rw (c.deref.ensures.value, c.deref-2.ensures.value) at c.none_waits.ensures in
    rw (← c.self.view_is) (empty_test c.self.inside.roles c.self.inside.pairs.items c.self.inside.queues.items c.none_waits.result c.self.invariant is)
