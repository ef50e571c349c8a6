use Rattle.std.proofs.Common.{take}
use Rattle.std.specs.List.{AllZip}
use Rattle.scrib_record.specs.RoleMachines.{IsCompiled}
use Rattle.scrib_record.proofs.machines.compile_all.Given as goal

abbrev pub invariant-loop-local : goal.invariant-loop-local
invariant-loop-local l = AllZip IsCompiled (take l.local-index l.locals) l.machines.items
