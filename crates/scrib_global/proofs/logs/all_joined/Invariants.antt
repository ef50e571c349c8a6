use Rattle.std.proofs.Common.{take}
use Rattle.scrib_types.specs.Logs.{AllJoined}
use Rattle.scrib_global.proofs.logs.all_joined.Given as goal

abbrev pub invariant-loop-i : goal.invariant-loop-i
invariant-loop-i l = AllJoined l.roles (take l.i l.log)
