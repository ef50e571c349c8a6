use Rattle.std.proofs.Common.{◌≡◌, take}
use Rattle.scrib_library.proofs.same.+same.Given as goal

abbrev pub invariant-same_statements-loop-i : goal.invariant-same_statements-loop-i
invariant-same_statements-loop-i l = take l.i l.a ≡ take l.i l.b

abbrev pub invariant-same_blocks-loop-i : goal.invariant-same_blocks-loop-i
invariant-same_blocks-loop-i l = take l.i l.a ≡ take l.i l.b
