use Rattle.std.proofs.Common.{◌≡◌, ◌++◌, drop}
use Rattle.scrib_list.specs.Protocols.{protocol_texts}
use Rattle.scrib_list.proofs.list.push_each_protocol.Given as goal

abbrev pub invariant-loop-protocol : goal.invariant-loop-protocol
invariant-loop-protocol l = l.out.items ++ protocol_texts l.format l.home (drop l.protocol-index l.protocols) ≡ l.fn.out.items ++ protocol_texts l.format l.home l.protocols
