use Rattle.std.proofs.Common.{◌≡◌, drop}
use Rattle.scrib_static_checks.specs.Elaboration.{level_of}
use Rattle.scrib_elaborate.specs.Scope.{levels_of}
use Rattle.scrib_elaborate.proofs.scope.Scope.level_of.Given as goal

abbrev pub invariant-loop-rec : goal.invariant-loop-rec
invariant-loop-rec l =
    level_of l.name (levels_of (drop l.rec-index l.rec-items)) ≡ level_of l.name (levels_of l.rec-items)
