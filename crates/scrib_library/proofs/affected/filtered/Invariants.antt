use Rattle.std.proofs.Common.{◌≡◌, take}
use Rattle.scrib_library.specs.Affected.{waiting_trees}
use Rattle.scrib_library.proofs.affected.filtered.Given as goal

abbrev pub invariant-loop-at : goal.invariant-loop-at
invariant-loop-at l = waiting_trees l.all.items ≡ take l.at l.modules
