use Rattle.std.proofs.lemmas.Bool.Decides.{same_from_decides}
use Rattle.scrib_static_checks.specs.Names.{dotted_eq}
use Rattle.scrib_static_checks.proofs.NameLemmas.{dotted_eq-Decides}
use Rattle.scrib_static_checks.proofs.names.same_names.Goals as goal

pub returns : goal.returns
returns c = same_from_decides c.names_equal.result (dotted_eq c.args.a.now c.args.b.now) c.names_equal.ensures (dotted_eq-Decides c.args.a.now c.args.b.now)
