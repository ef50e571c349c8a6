use Rattle.std.proofs.Common.{◌≡◌, ◌<◌, ◌+◌, ◌^◌, refl, subst, arith}
use Rattle.scrib_hold_stage.specs.Deadlines.{StartsLate}
use Rattle.scrib_hold_stage.specs.Stages.{stage_state}
use Rattle.scrib_hold_stage.proofs.PassLemmas.{passes_alone}
use Rattle.scrib_hold_stage.proofs.stage.HoldStage.try_pass.Goals as goal

pub returns-clause-passed : goal.returns-clause-passed
returns-clause-passed g c = λ yes.
    (let time : c.in-Some.time ≡ c.args.self.now.time + 1 = omega (arith, c.in-Some.ensures.0, c.in-Some.ensures.1) in
    let small : c.args.self.now.time + 1 < 2 ^ 64 = omega (arith, c.in-Some.ensures.0, c.in-Some.ensures.1) in
    let late = subst (λ n. StartsLate n c.args.self.now.bound c.args.self.now.deadlines.items) time (c.if-not-none_due.ensures refl) in
    passes_alone g.A.Arrival.event c.args.conversation c.args.event.now (stage_state c.args.self.now) _ small
    (c.if-not-pass_to.ensures.passed refl) refl time refl refl refl late)
