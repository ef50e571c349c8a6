use Rattle.std.proofs.Common.{◌<◌, sym, ap, subst, get_or, arith}
use Rattle.scrib_holdback.proofs.SlotLemmas.{positions_past, positions_read}
use Rattle.scrib_holdback.proofs.WaitingLemmas.{HasFirst, first_read}
use Rattle.scrib_holdback.proofs.lanes.first_position.Goals as goal

pub returns-then-place-lanes : goal.returns-then-place-lanes
returns-then-place-lanes c = positions_past c.args.lanes.now c.args.place (omega arith)

pub returns : goal.returns
returns c =
    let lane = get_or c.args.lanes.now c.args.place c.index-lanes-place.result in
    let at = positions_read c.args.lanes.now c.args.place lane (omega arith) (ap (get_or c.args.lanes.now c.args.place) c.index-lanes-place.is) in
    subst (λ z. HasFirst z c.copied.result) (sym at)
    (first_read lane.positions.items c.front.result c.copied.result
    (λ some. (let long : 0 < lane.positions.len = c.front.ensures.variant.0 some in omega (arith, long, lane.positions.ok.0)))
    (λ long. c.front.ensures.variant.1 (omega (arith, long, lane.positions.ok.0)))
    c.front.ensures.lookup c.copied.ensures)
