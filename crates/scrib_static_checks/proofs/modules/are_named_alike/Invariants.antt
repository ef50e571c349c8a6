use Rattle.std.proofs.Common.{◌≡◌, take}
use Rattle.scrib_static_checks.specs.Names.{protocol_names}
use Rattle.scrib_static_checks.proofs.modules.are_named_alike.Given as goal

abbrev pub invariant-loop-i : goal.invariant-loop-i
invariant-loop-i l = protocol_names (take l.i l.a) ≡ protocol_names (take l.i l.b)
