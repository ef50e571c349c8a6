use Rattle.std.proofs.Common.{arith}
use Rattle.scrib_hold_stage.specs.Stages.{stage_state}
use Rattle.scrib_hold_stage.proofs.FinishLemmas.{finished}
use Rattle.scrib_hold_stage.proofs.stage.HoldStage.finish.Goals as goal

pub returns-clause-law : goal.returns-clause-law
returns-clause-law g c =
    finished g.A.Arrival.event (stage_state c.args.self) (stage_state c.expire.new.self) c.args.released.now.items c.expire.new.released.items
    c.in_ok-expire.ensures.ok c.in_ok-expire.ensures.done

pub returns-clause-counts : goal.returns-clause-counts
returns-clause-counts g c = λ bound entries closed earlier expired h. (
  omega (arith, c.saturating_sub-events.ensures, h.kept.events),
  h.kept.expired_count,
)
