use Rattle.std.proofs.Common.{refl, sym, subst}
use Rattle.scrib_hold_stage.specs.Stages.{stage_state, IsClosed}
use Rattle.scrib_hold_stage.proofs.ClosingLemmas.{closed_of}
use Rattle.scrib_hold_stage.proofs.stage.HoldStage.close.Goals as goal

pub returns-clause-ok : goal.returns-clause-ok
returns-clause-ok g c =
    let id = c.args.conversation in
    let old = stage_state c.args.self.now in
    let now = c.expire_all.new.released.items in
    let removed = c.swap_remove-forgotten.ensures.updates in
    subst (λ s. IsClosed g.A.Arrival.event id old s c.args.released.now.items now) (sym c.tally.ensures)
    (closed_of g.A.Arrival.event id old (stage_state c.expire_all.new.self) _ c.args.released.now.items now c.in_ok-expire_all.ensures.ok removed.1 removed.2 refl refl refl refl refl)
