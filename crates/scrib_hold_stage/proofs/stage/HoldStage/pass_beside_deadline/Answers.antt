use Rattle.std.proofs.Common.{◌∙◌, ◌∷◌, ◌<◌, ◌+◌, ◌^◌, drop, refl, sym, ap, subst, arith}
use Rattle.scrib_hold_stage.specs.Deadlines.{StartsLate}
use Rattle.scrib_hold_stage.specs.Stages.{stage_state}
use Rattle.scrib_hold_stage.proofs.PassLemmas.{passes_beside}
use Rattle.scrib_hold_stage.proofs.stage.HoldStage.pass_beside_deadline.Goals as goal

pub returns-clause-passed : goal.returns-clause-passed
returns-clause-passed g c = λ yes.
    (let small : c.args.self.now.time + 1 < 2 ^ 64 = omega (arith, c.requires, c.ranges.time) in
    let rest = c.pop_front-passed.ensures.rest in
    let late = subst (λ n. StartsLate n c.args.self.now.bound (drop 1 c.args.self.now.deadlines.items)) c.requires c.in-Some.ensures.late in
    passes_beside g.A.Arrival.event c.args.conversation c.args.event.now (stage_state c.args.self.now) _ c.in-Some.deadline.now
    (c.in-Some.ensures.first ∙ ap (λ z. c.in-Some.deadline.now ∷ z) (sym rest)) (c.if-not-is_not_oldest.ensures refl)
    small (c.if-not-pass_to.ensures.passed refl) refl c.requires refl refl
    (subst (StartsLate (c.args.self.now.time + 1) c.args.self.now.bound) (sym rest) late))
