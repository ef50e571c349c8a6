use Rattle.scrib_locked_steps.proofs.StepReplies.{open_answers}
use Rattle.scrib_locked_steps.proofs.locked_calls.open_locked.Goals as goal

pub returns-clause-answered : goal.returns-clause-answered
returns-clause-answered c = rw c.open_reply.ensures (open_answers c.args.library.now c.args.shard.now.records c.open_step.new.shard.records c.args.id c.args.shard.now.capacity c.args.name.now c.open_step.result c.open_step.ensures.name c.open_step.ensures.ok c.open_step.ensures.fault c.open_step.ensures.err)
