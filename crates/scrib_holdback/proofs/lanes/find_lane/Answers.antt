use Rattle.scrib_holdback.proofs.WaitingLemmas.{first_placed}
use Rattle.scrib_holdback.proofs.lanes.find_lane.Goals as goal

pub returns-then-is_lane_of : goal.returns-then-is_lane_of
returns-then-is_lane_of c = c.is_lane_of.ensures c.if-is_lane_of.true

pub returns : goal.returns
returns c = first_placed c.args.lanes.now c.args.role.now c.first_lane.result c.first_lane.ensures
