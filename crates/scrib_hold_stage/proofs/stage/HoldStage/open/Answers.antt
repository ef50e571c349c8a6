use Rattle.scrib_hold_stage.specs.Stages.{stage_state}
use Rattle.scrib_hold_stage.proofs.StepLemmas.{read_of}
use Rattle.scrib_hold_stage.proofs.stage.HoldStage.open.Goals as goal

pub returns-clause-ok : goal.returns-clause-ok
returns-clause-ok g c =
    read_of g.A.Arrival.event _ (stage_state c.args.self.now) (stage_state c.take_opening.new.self) (stage_state c.ripen.new.self) (stage_state c.tally.new.self)
    c.args.released.now.items c.take_opening.new.released.items c.ripen.new.released.items c.in_ok-take_opening.ensures.ok c.in_ok-ripen.ensures.ok c.tally.ensures
