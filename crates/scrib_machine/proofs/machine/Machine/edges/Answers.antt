use Rattle.scrib_machine.proofs.Rows.{row_read, row_within}
use Rattle.scrib_machine.proofs.machine.Machine.edges.Goals as goal

pub returns-clause-sorted : goal.returns-clause-sorted
returns-clause-sorted c =
    c.self.invariant.sorted c.args.state c.as_slice.result.now (row_read c.self.inside.rows.items c.args.self.now c.args.state c.index.result.now c.as_slice.result.now c.self.view_is c.requires c.index.ensures c.as_slice.ensures)

pub returns-clause-within : goal.returns-clause-within
returns-clause-within c =
    row_within c.self.inside.rows.items c.args.self.now c.args.state c.as_slice.result.now c.self.view_is (row_read c.self.inside.rows.items c.args.self.now c.args.state c.index.result.now c.as_slice.result.now c.self.view_is c.requires c.index.ensures c.as_slice.ensures) c.self.invariant
