use Rattle.std.proofs.Common.{◌∙◌, ap}
use Rattle.scrib_queues.specs.Layout.{items_of}
use Rattle.scrib_queues.proofs.QueueViews.{copied}
use Rattle.scrib_queues.proofs.queues.Queues.copy.Goals as goal

pub returns-clause-items : goal.returns-clause-items
returns-clause-items g c =
    let pairs = c.in_ok-pairs.ensures.items ∙ c.deref.ensures.value in
    let queues = c.in_ok-queues.ensures ∙ ap items_of c.deref-2.ensures.value in
    rw (pairs, ← c.self.view_is) (copied _ _ _ _ queues)
