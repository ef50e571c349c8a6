use Rattle.scrib_types.specs.declared.event.Action.TheVariants.{Receives}
use Rattle.scrib_machine.proofs.Rows.{found}
use Rattle.scrib_machine.proofs.machine.Machine.step_receive.Goals as goal

pub returns-then-is_reception-clause-steps : goal.returns-then-is_reception-clause-steps
returns-then-is_reception-clause-steps c =
    found c.args.self.now c.args.state c.edges-edge-items.result.now (Receives c.args.from.now c.args.message.now) c.loop-edge.edge-index c.edge-item.result c.edges-edge-items.ensures.here c.edges-edge-items.ensures.sorted c.loop-edge-test.true c.edge-item.is (c.is_reception.ensures.0 c.if-is_reception.true)
