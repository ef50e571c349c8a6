use Rattle.std.proofs.Common.{sym, ◌∙◌, arith}
use Rattle.scrib_types.specs.WellFormed.{has_role}
use Rattle.scrib_tree.specs.declared.tree.ProtocolDeclaration.{ProtocolDeclaration}
use Rattle.scrib_static_checks.proofs.Places.{roles-more, again-at}
use Rattle.scrib_static_checks.proofs.own_names.check_protocols.Goals as goal

pub returns-then-has_protocol : goal.returns-then-has_protocol
returns-then-has_protocol c =
    again-at (λ (d : ProtocolDeclaration). d.name) has_role (λ (d : ProtocolDeclaration). d.spot) c.args.home.now.protocols c.as_slice-protocols.result.now c.loop-i.i _ c.index-protocols-i.result c.as_slice-protocols.ensures (omega arith) c.loop-i-test.true c.index-protocols-i.is (sym c.has_protocol.ensures ∙ c.if-has_protocol.true)

pub loop-i-preserved : goal.loop-i-preserved
loop-i-preserved c =
    roles-more (λ (d : ProtocolDeclaration). d.name) c.as_slice-protocols.result.now c.loop-i.i _ c.index-protocols-i.result (omega arith) c.loop-i-test.true c.index-protocols-i.is c.loop-i.invariant (sym c.has_protocol.ensures ∙ c.if-has_protocol.false)
