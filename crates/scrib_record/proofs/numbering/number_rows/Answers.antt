use Rattle.std.proofs.Common.{◌<◌, ◌∙◌, List, ap, get_or, length, subst, take, arith}
use Rattle.std.specs.List.{AllZip}
use Rattle.scrib_machine.specs.declared.machine.Edge.{Edge}
use Rattle.scrib_record.specs.Exchanges.{IsEdge}
use Rattle.scrib_record.proofs.NumberingSteps.{kept_again, rows_kept, zip_on}
use Rattle.scrib_record.proofs.numbering.number_rows.Goals as goal

pub loop-row-preserved : goal.loop-row-preserved
loop-row-preserved c =
    let role = c.args.role.now in
    let m = c.args.machine.now in
    let old = c.loop-row.exchanges in
    let new = c.number_row.new.exchanges in
    let i = c.loop-row.row-index in
    let x = c.row-item.result in
    let held = c.loop-row.invariant in
    let done = c.in_ok-numbered.ensures in
    let within : i < length m = omega (arith, c.loop-row-test.true, ap length c.rows-row-items.ensures) in
    let is = c.row-item.is ∙ ap (λ (rows : List (List Edge)). get_or rows i x) c.rows-row-items.ensures in
    let row = subst (λ (es : List Edge). AllZip (IsEdge new role) c.in_ok-numbered.numbered es) c.as_slice.ensures done.row in (
      done.exchanges,
      kept_again c.args.exchanges.now old new held.1 done.kept,
      zip_on (AllZip (IsEdge new role)) c.loop-row.rows.items c.push.new.self.items m i c.in_ok-numbered.numbered x within is
          (rows_kept old new role c.loop-row.rows.items (take i m) done.kept held.2) row c.in_ok-push.ensures.items,
    )
