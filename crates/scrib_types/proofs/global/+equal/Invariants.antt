use Rattle.std.proofs.Common.{◌≡◌, take}
use Rattle.scrib_types.proofs.global.+equal.Given as goal

abbrev pub invariant-branches_equal-loop-i : goal.invariant-branches_equal-loop-i
invariant-branches_equal-loop-i l = take l.i l.a ≡ take l.i l.b
