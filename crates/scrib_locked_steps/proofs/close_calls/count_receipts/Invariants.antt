use Rattle.std.proofs.Common.{◌≡◌, ◌-◌, ◌^◌, min, take}
use Rattle.scrib_locked_steps.specs.Closing.{receipts_in}
use Rattle.scrib_locked_steps.proofs.close_calls.count_receipts.Given as goal

abbrev pub invariant-loop-pass : goal.invariant-loop-pass
invariant-loop-pass l = l.count ≡ min (receipts_in (take l.pass-index l.passes)) (2 ^ 64 - 1)
