use Rattle.std.proofs.lemmas.Result.{IfOk-weaker}
use Rattle.scrib_hold_stage.specs.PendingClosings.{IsOf, IsApart, closings_in}
use Rattle.scrib_hold_stage.specs.Stages.{stage_state}
use Rattle.scrib_hold_stage.proofs.FirstLemmas.{made_first}
use Rattle.scrib_hold_stage.proofs.closings.PendingClosings.close_of.Goals as goal

pub returns-in-Some-clause-made : goal.returns-in-Some-clause-made
returns-in-Some-clause-made g c =
    IfOk-weaker c.close_at.result _ _
    (λ made m. made_first g.A.Arrival.event (IsOf c.args.conversation) (IsApart c.args.conversation) c.in-Some.index (closings_in c.args.self.now) (closings_in c.close_at.new.self)
    (stage_state c.args.stage.now) (stage_state c.close_at.new.stage) c.args.released.now.items c.close_at.new.released.items made c.in-Some.ensures.some m)
    c.close_at.ensures.made
