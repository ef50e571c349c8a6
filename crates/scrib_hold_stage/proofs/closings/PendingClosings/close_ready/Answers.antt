use Rattle.std.proofs.lemmas.Result.{IfOk-weaker}
use Rattle.scrib_hold_stage.specs.PendingClosings.{IsReady, IsNotReady, closings_in}
use Rattle.scrib_hold_stage.specs.Stages.{stage_state}
use Rattle.scrib_hold_stage.proofs.FirstLemmas.{made_first}
use Rattle.scrib_hold_stage.proofs.closings.PendingClosings.close_ready.Goals as goal

pub returns-in-Some-clause-made : goal.returns-in-Some-clause-made
returns-in-Some-clause-made g c =
    IfOk-weaker c.close_at.result _ _
    (λ made m. made_first g.A.Arrival.event (λ d. IsReady d (stage_state c.args.stage.now)) (λ d. IsNotReady d (stage_state c.args.stage.now)) c.in-Some.index (closings_in c.args.self.now) (closings_in c.close_at.new.self)
    (stage_state c.args.stage.now) (stage_state c.close_at.new.stage) c.args.released.now.items c.close_at.new.released.items made c.in-Some.ensures.some m)
    c.close_at.ensures.made
