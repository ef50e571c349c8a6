use Rattle.std.proofs.Common.{◌≡◌, ◌∷◌, take}
use Rattle.scrib_elaborate.specs.Scope.{levels_of}
use Rattle.scrib_elaborate.proofs.scope.one_more.Given as goal

abbrev pub invariant-loop-rec : goal.invariant-loop-rec
invariant-loop-rec l = levels_of l.more.items ≡ (l.name, l.level) ∷ levels_of (take l.rec-index l.recs)
