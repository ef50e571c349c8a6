use Rattle.scrib_hold_stage.proofs.TakeLemmas.{began_other}
use Rattle.scrib_hold_stage.proofs.stage.HoldStage.begin_other.Goals as goal

pub returns-clause-ok : goal.returns-clause-ok
returns-clause-ok g c = began_other c.args.self.now c.begin.new.self c.saturating_add-self.result c.in_ok-begin.ensures.ok c.saturating_add-self.ensures
