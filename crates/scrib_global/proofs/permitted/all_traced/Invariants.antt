use Rattle.std.proofs.Common.{take}
use Rattle.scrib_types.specs.GlobalView.{global_of}
use Rattle.scrib_global.specs.Traced.{AllTraced}
use Rattle.scrib_global.proofs.permitted.all_traced.Given as goal

abbrev pub invariant-loop-role : goal.invariant-loop-role
invariant-loop-role l = AllTraced (global_of l.global) l.log (take l.role-index l.roles)
