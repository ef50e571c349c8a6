use Rattle.std.proofs.Common.{take}
use Rattle.scrib_types.specs.GlobalView.{global_of}
use Rattle.scrib_global.specs.Next.{AreNextByType}
use Rattle.scrib_global.proofs.next.all_next.Given as goal

abbrev pub invariant-loop-role : goal.invariant-loop-role
invariant-loop-role l = AreNextByType (global_of l.global) l.log (take l.role-index l.roles) l.found.items
