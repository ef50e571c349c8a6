use Rattle.std.proofs.Common.{take}
use Rattle.scrib_locked_steps.specs.Closing.{IsLeastMismatch}
use Rattle.scrib_locked_steps.proofs.close_calls.least_mismatch.Given as goal

abbrev pub invariant-loop-pass : goal.invariant-loop-pass
invariant-loop-pass l = IsLeastMismatch l.shard (take l.pass-index l.passes) l.least
