use Rattle.std.proofs.Common.{length}
use Rattle.scrib_hold_stage.specs.Stages.{stage_state}
use Rattle.scrib_hold_stage.specs.Steps.{IsExpiring}
use Rattle.scrib_hold_stage.proofs.stage.HoldStage.expire.Given as goal

abbrev pub invariant-loop : goal.invariant-loop
invariant-loop g l = IsExpiring g.A.Arrival.event l.due (stage_state l.initial.self) (stage_state l.self) l.initial.released.items l.released.items

abbrev pub decreases-loop : goal.decreases-loop
decreases-loop g l = length l.self.deadlines.items
