use Rattle.scrib_locked_steps.proofs.StepReplies.{ask_answers}
use Rattle.scrib_locked_steps.proofs.locked_calls.ask_locked.Goals as goal

pub returns : goal.returns
returns c = rw c.verdict_reply.ensures (ask_answers c.args.library.now c.args.shard.now.records c.args.id c.ask_step.result c.ask_step.ensures.ok c.ask_step.ensures.fault)
