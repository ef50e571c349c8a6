use Rattle.std.proofs.Common.{◌≡◌, drop}
use Rattle.scrib_static_checks.specs.Names.{role_names}
use Rattle.scrib_static_checks.specs.Elaboration.{given_for}
use Rattle.scrib_type_builder.specs.Renaming.{named}
use Rattle.scrib_type_builder.proofs.renamed.given_for.Given as goal

abbrev pub invariant-loop-i : goal.invariant-loop-i
invariant-loop-i l =
    given_for (role_names (drop l.i l.declared)) (named (drop l.i l.given)) l.role ≡ given_for (role_names l.declared) (named l.given) l.role
