use Rattle.std.proofs.Common.{◌≡◌, drop}
use Rattle.scrib_types.specs.WellFormed.{has_role}
use Rattle.scrib_static_checks.specs.Table.{enclosing_names}
use Rattle.scrib_static_checks.proofs.statements.is_enclosing.Given as goal

abbrev pub invariant-loop-rec : goal.invariant-loop-rec
invariant-loop-rec l = has_role l.name (enclosing_names (drop l.rec-index l.recs)) ≡ has_role l.name (enclosing_names l.recs)
