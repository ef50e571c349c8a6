use Rattle.std.proofs.Common.{arith}
use Rattle.scrib_record.specs.declared.numbered_edge.NumberedEdge.TheVariants.{Sends}
use Rattle.scrib_record.proofs.numbered_edge.after_send.Goals as goal

pub returns-clause-absent : goal.returns-clause-absent
returns-clause-absent c e next h = c.loop-edge.invariant h.0 (Sends c.args.exchange next) (omega (arith, h.1)) next h.2
