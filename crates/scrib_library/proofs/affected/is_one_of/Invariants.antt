use Rattle.std.proofs.Common.{take}
use Rattle.std.specs.List.{Contains}
use Rattle.scrib_library.specs.Affected.{names_now}
use Rattle.scrib_library.proofs.affected.is_one_of.Given as goal

abbrev pub invariant-loop-other : goal.invariant-loop-other
invariant-loop-other l = Contains (names_now (take l.other-index l.names)) l.name → ⊥
