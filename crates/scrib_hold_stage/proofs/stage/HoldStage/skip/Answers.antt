use Rattle.std.proofs.Common.{ap}
use Rattle.scrib_hold_stage.specs.Entries.{Passes}
use Rattle.scrib_hold_stage.specs.Stages.{stage_state}
use Rattle.scrib_hold_stage.proofs.StepLemmas.{read_of}
use Rattle.scrib_hold_stage.proofs.TakeLemmas.{taken_other}
use Rattle.scrib_hold_stage.proofs.stage.HoldStage.skip.Goals as goal

pub returns-clause-ok : goal.returns-clause-ok
returns-clause-ok g c =
    read_of g.A.Arrival.event Passes (stage_state c.args.self.now) (stage_state c.begin_other.new.self) (stage_state c.ripen.new.self) (stage_state c.tally.new.self)
    c.args.released.now.items c.args.released.now.items c.ripen.new.released.items
    (taken_other g.A.Arrival.event (stage_state c.args.self.now) (stage_state c.begin_other.new.self) c.args.released.now.items (ap stage_state c.in_ok-begin_other.ensures.ok) c.in_ok-begin_other.ensures.fits)
    c.in_ok-ripen.ensures.ok c.tally.ensures
