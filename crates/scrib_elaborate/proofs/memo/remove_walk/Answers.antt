use Rattle.scrib_elaborate.proofs.WalkRemoval.{idle_without}
use Rattle.scrib_elaborate.proofs.memo.remove_walk.Goals as goal

pub returns-then-place-len : goal.returns-then-place-len
returns-then-place-len c ms ds idle = idle_without ms ds c.args.place c.args.states.now.items idle
