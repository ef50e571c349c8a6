use Rattle.std.proofs.Common.{◌∙◌, ◌++◌, ◌∷◌, [], slice_get, refl, sym, ap}
use Rattle.scrib_hold_stage.specs.declared.deadlines.Deadline.{Deadline}
use Rattle.scrib_hold_stage.specs.Stages.{stage_state}
use Rattle.scrib_hold_stage.proofs.TakeLemmas.{taken_waiting, taken_at_once}
use Rattle.scrib_hold_stage.proofs.stage.HoldStage.take.Goals as goal

pub returns-then-not-is_at-clause-ok : goal.returns-then-not-is_at-clause-ok
returns-then-not-is_at-clause-ok g c =
    let d : Deadline = record { time = c.begin.new.self.time; conversation = c.args.conversation } in
    taken_waiting g.A.Arrival.event c.args.conversation c.args.arrival (stage_state c.args.self.now) (stage_state c.begin.new.self) _
    c.args.released.now.items c.push_to.new.released.items (ap stage_state c.in_ok-begin.ensures.ok) c.in_ok-begin.ensures.fits c.in_ok-push_to.ensures.ok
    refl refl refl refl d
    (c.push_back_reserved.ensures.items ∙ ap (λ z. z ++ d ∷ []) c.in_ok-reserve.ensures.items) refl refl

pub returns-else-not-is_at-clause-ok : goal.returns-else-not-is_at-clause-ok
returns-else-not-is_at-clause-ok g c =
    let y = c.if-not-is_at.ensures refl in
    taken_at_once g.A.Arrival.event c.args.conversation c.args.arrival (stage_state c.args.self.now) (stage_state c.begin.new.self) _
    c.args.released.now.items c.push_to.new.released.items (ap stage_state c.in_ok-begin.ensures.ok) c.in_ok-begin.ensures.fits c.in_ok-push_to.ensures.ok
    refl refl refl refl c.in_ok-reserve.ensures.items
    c.len-start.result y.0 (c.len-start.ensures ∙ c.args.released.now.ok.0) (ap (λ z. slice_get z c.len-start.result) (sym c.deref.ensures.value) ∙ y.1) y.2
