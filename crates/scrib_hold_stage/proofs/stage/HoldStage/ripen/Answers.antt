use Rattle.std.proofs.Common.{◌≡◌, ◌∙◌, [], eqb-true, refl, sym, arith}
use Rattle.std.proofs.lemmas.List.{nil_from_length}
use Rattle.scrib_hold_stage.specs.Stages.{stage_state}
use Rattle.scrib_hold_stage.proofs.StepLemmas.{ok_both, none_ripe, ripened, unripe}
use Rattle.scrib_hold_stage.proofs.stage.HoldStage.ripen.Goals as goal

pub returns-in-Some-clause-ok : goal.returns-in-Some-clause-ok
returns-in-Some-clause-ok g c =
    ok_both c.expire.result
    (λ p later. ripened g.A.Arrival.event c.in-Some.due (stage_state c.args.self.now) (stage_state c.expire.new.self) c.args.released.now.items c.expire.new.released.items p later
    (omega (arith, c.in-Some.ensures.0, c.in-Some.ensures.1)))
    c.expire.ensures.ok c.expire.ensures.done

pub returns-in-None-clause-ok : goal.returns-in-None-clause-ok
returns-in-None-clause-ok g c =
    unripe g.A.Arrival.event (stage_state c.args.self.now) (stage_state c.args.self.now) c.args.released.now.items refl (omega (arith, c.in-None.ensures))

pub returns-then-is_empty-clause-ok : goal.returns-then-is_empty-clause-ok
returns-then-is_empty-clause-ok g c =
    let few : c.args.self.now.deadlines.len ≡ 0 = eqb-true c.args.self.now.deadlines.len 0 (sym c.is_empty.ensures ∙ c.if-is_empty.true) in
    let none : c.args.self.now.deadlines.items ≡ [] = nil_from_length c.args.self.now.deadlines.items (omega (arith, few, c.args.self.now.deadlines.ok.0)) in
    none_ripe g.A.Arrival.event (stage_state c.args.self.now) (stage_state c.args.self.now) c.args.released.now.items refl none
