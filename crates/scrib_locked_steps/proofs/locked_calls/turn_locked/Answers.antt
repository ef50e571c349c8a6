use Rattle.scrib_locked_steps.proofs.StepReplies.{turn_answers}
use Rattle.scrib_locked_steps.proofs.locked_calls.turn_locked.Goals as goal

pub returns-clause-answered : goal.returns-clause-answered
returns-clause-answered c = rw c.verdict_reply.ensures (turn_answers c.args.library.now c.args.shard.now.records c.turn_step.new.shard.records c.args.id c.turn_step.result c.turn_step.ensures.ok c.turn_step.ensures.fault c.turn_step.ensures.err)
