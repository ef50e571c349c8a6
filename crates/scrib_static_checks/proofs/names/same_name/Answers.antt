use Rattle.std.proofs.lemmas.Bool.Decides.{same_from_decides}
use Rattle.scrib_static_checks.specs.Names.{dotted_eq}
use Rattle.scrib_static_checks.proofs.NameLemmas.{dotted_eq-Decides}
use Rattle.scrib_static_checks.proofs.names.same_name.Goals as goal

pub returns : goal.returns
returns c = same_from_decides c.equal.result (dotted_eq c.args.a.now c.args.b.now) c.equal.ensures (dotted_eq-Decides c.args.a.now c.args.b.now)
