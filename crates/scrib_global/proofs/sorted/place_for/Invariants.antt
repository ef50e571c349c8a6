use Rattle.std.proofs.Common.{take}
use Rattle.std.specs.List.{AllByRecursion}
use Rattle.scrib_types.specs.Judgement.{ComesBefore}
use Rattle.scrib_global.proofs.sorted.place_for.Given as goal

abbrev pub invariant-loop-i : goal.invariant-loop-i
invariant-loop-i l = AllByRecursion (λ z. ComesBefore z l.action) (take l.i l.list)
