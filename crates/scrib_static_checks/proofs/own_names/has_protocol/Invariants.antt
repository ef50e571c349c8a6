use Rattle.std.proofs.Common.{◌≡◌, drop}
use Rattle.scrib_types.specs.WellFormed.{has_role}
use Rattle.scrib_static_checks.specs.Names.{protocol_names}
use Rattle.scrib_static_checks.proofs.own_names.has_protocol.Given as goal

abbrev pub invariant-loop-protocol : goal.invariant-loop-protocol
invariant-loop-protocol l = has_role l.name (protocol_names (drop l.protocol-index l.protocols)) ≡ has_role l.name (protocol_names l.protocols)
