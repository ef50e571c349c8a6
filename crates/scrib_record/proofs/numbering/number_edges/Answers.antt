use Rattle.std.proofs.Common.{take}
use Rattle.scrib_record.specs.Exchanges.{IsEdge}
use Rattle.scrib_record.proofs.NumberingSteps.{kept_again, row_kept, zip_on}
use Rattle.scrib_record.proofs.numbering.number_edges.Goals as goal

pub loop-edge-preserved : goal.loop-edge-preserved
loop-edge-preserved c =
    let role = c.args.role.now in
    let row = c.args.row.now in
    let old = c.loop-edge.exchanges in
    let new = c.number_edge.new.exchanges in
    let i = c.loop-edge.edge-index in
    let held = c.loop-edge.invariant in
    let done = c.in_ok-number_edge.ensures in (
      done.exchanges,
      kept_again c.args.exchanges.now old new held.1 done.kept,
      zip_on (IsEdge new role) c.loop-edge.numbered.items c.push.new.self.items row i c.in_ok-number_edge.field-0 c.edge-item.result c.loop-edge-test.true c.edge-item.is
          (row_kept old new role c.loop-edge.numbered.items (take i row) done.kept held.2) done.edge c.in_ok-push.ensures.items,
    )
