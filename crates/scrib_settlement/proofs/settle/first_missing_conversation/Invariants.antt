use Rattle.std.proofs.Common.{take}
use Rattle.scrib_settlement.specs.Mismatches.{IsLeast, IsThere}
use Rattle.scrib_settlement.proofs.settle.first_missing_conversation.Given as goal

abbrev pub invariant-loop-pass : goal.invariant-loop-pass
invariant-loop-pass l = IsLeast (IsThere l.shards (take l.pass-index l.passes)) l.least
