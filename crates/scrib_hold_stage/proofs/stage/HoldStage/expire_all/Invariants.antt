use Rattle.std.proofs.Common.{length}
use Rattle.scrib_hold_stage.specs.Stages.{stage_state}
use Rattle.scrib_hold_stage.specs.Steps.{IsExpiringOf}
use Rattle.scrib_hold_stage.proofs.stage.HoldStage.expire_all.Given as goal

abbrev pub invariant-loop : goal.invariant-loop
invariant-loop g l = IsExpiringOf g.A.Arrival.event l.conversation (stage_state l.initial.self) (stage_state l.self) l.initial.released.items l.released.items

abbrev pub decreases-loop : goal.decreases-loop
decreases-loop g l = length l.self.deadlines.items
