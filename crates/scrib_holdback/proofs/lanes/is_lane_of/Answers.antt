use Rattle.std.proofs.Common.{◌∙◌, Some, sym, ap}
use Rattle.std.proofs.lemmas.Option.{slice_get-get_or}
use Rattle.scrib_holdback.proofs.WaitingLemmas.{lane_role}
use Rattle.scrib_holdback.proofs.lanes.is_lane_of.Goals as goal

pub returns-in-Some : goal.returns-in-Some
returns-in-Some c = λ yes.
    (lane_role c.args.lanes.now c.args.index c.in-Some.lane.now
    (slice_get-get_or c.args.lanes.now c.args.index c.in-Some.lane.now c.in-Some.ensures.lookup.3.0 ∙ ap Some (sym c.in-Some.ensures.lookup.1))
    ∙ ap Some (sym (c.equal.ensures.same.0 yes)))
