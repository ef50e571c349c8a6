use Rattle.std.proofs.Common.{◌≡◌, true, take}
use Rattle.scrib_types.specs.WellFormed.{distinct_roles}
use Rattle.scrib_static_checks.specs.Names.{protocol_names}
use Rattle.scrib_static_checks.proofs.own_names.check_protocols.Given as goal

abbrev pub invariant-loop-i : goal.invariant-loop-i
invariant-loop-i l = distinct_roles (protocol_names (take l.i l.protocols)) ≡ true
