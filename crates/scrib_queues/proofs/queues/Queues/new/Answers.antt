use Rattle.scrib_queues.proofs.QueueViews.{none_used}
use Rattle.scrib_queues.proofs.queues.Queues.new.Goals as goal

pub returns-clause-empty : goal.returns-clause-empty
returns-clause-empty g c = none_used _ _ _ c.new.ensures.items
