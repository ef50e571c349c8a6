use Rattle.std.proofs.Common.{◌≡◌, Result, Ok, Err, OnErr, ap}
use Rattle.scrib_locked_steps.specs.Shards.{ShardHeld}
use Rattle.scrib_locked_steps.proofs.StepReplies.{close_answers}
use Rattle.scrib_locked_steps.proofs.locked_calls.close_locked.Goals as goal

records_left : {X E : Type 0} (r : Result X E) (new old : ShardHeld) → OnErr r (new ≡ old) → OnErr r (new.records ≡ old.records)
records_left (Ok x) new old same = tt
records_left (Err e) new old same = ap (λ (s : ShardHeld). s.records) same

pub returns-clause-answered : goal.returns-clause-answered
returns-clause-answered c =
    rw c.close_reply.ensures (close_answers c.args.library.now c.args.shard.now.records c.close_step.new.shard.records c.args.id c.close_step.result c.close_step.ensures.ok c.close_step.ensures.fault
    (records_left c.close_step.result c.close_step.new.shard c.args.shard.now c.close_step.ensures.err))
