use Rattle.std.proofs.Common.{◌≡◌, ◌∙◌, ◌++◌, ◌∷◌, [], List, OnErr, OnOk, sym, ap, subst}
use Rattle.scrib_holdback.specs.Holdings.{Holding, IsPushed, IsSameAfterAny}
use Rattle.scrib_holdback.proofs.holdback.Holdback.push_idle.Goals as goal

pub returns-then-try_pass-clause-ok : goal.returns-then-try_pass-clause-ok
returns-then-try_pass-clause-ok g c =
    let items : c.push_reserved.new.self.items ≡ c.args.released.now.items ++ c.args.arrival ∷ [] = c.push_reserved.ensures.items ∙ ap (λ (z : List g.row.A.Denot). z ++ c.args.arrival ∷ []) c.in_ok-reserve.ensures.items in
    subst (λ z. IsPushed g.A.Arrival.event c.args.arrival c.args.self.now c.try_pass.new.self c.args.released.now.items z) (sym items)
    (c.try_pass.ensures.passed c.if-try_pass.true c.args.arrival (sym c.event.ensures) c.args.released.now.items)

pub returns-clause-ok : goal.returns-clause-ok
returns-clause-ok g c =
    subst (λ (h : Holding g.row.A.Denot). OnOk c.push_among.result (IsPushed g.A.Arrival.event c.args.arrival h c.push_among.new.self c.args.released.now.items c.push_among.new.released.items)) (c.try_pass.ensures.same c.if-try_pass.false)
    (subst (λ (z : List g.row.A.Denot). OnOk c.push_among.result (IsPushed g.A.Arrival.event c.args.arrival c.try_pass.new.self c.push_among.new.self z c.push_among.new.released.items)) c.in_ok-reserve.ensures.items
    c.push_among.ensures.ok)

pub returns-clause-err : goal.returns-clause-err
returns-clause-err g c =
    subst (λ (h : Holding g.row.A.Denot). OnErr c.push_among.result (IsSameAfterAny g.A.Arrival.event h c.push_among.new.self)) (c.try_pass.ensures.same c.if-try_pass.false) c.push_among.ensures.err
