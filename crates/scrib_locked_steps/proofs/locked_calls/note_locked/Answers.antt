use Rattle.scrib_locked_steps.proofs.StepReplies.{note_answers}
use Rattle.scrib_locked_steps.proofs.locked_calls.note_locked.Goals as goal

pub returns-clause-answered : goal.returns-clause-answered
returns-clause-answered c = rw c.note_reply.ensures (note_answers c.args.library.now c.args.shard.now.records c.note_step.new.shard.records c.args.id c.args.event c.note_step.result c.note_step.ensures.ok c.note_step.ensures.fault c.note_step.ensures.err)
