use Rattle.std.proofs.Common.{◌≡◌, ◌∷◌, take}
use Rattle.scrib_static_checks.specs.Table.{enclosing_names}
use Rattle.scrib_static_checks.proofs.statements.inside.Given as goal

abbrev pub invariant-loop-rec : goal.invariant-loop-rec
invariant-loop-rec l = enclosing_names l.inner.items ≡ l.name ∷ enclosing_names (take l.rec-index l.recs)
