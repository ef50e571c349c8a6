use Rattle.std.proofs.Common.{◌∙◌, ◌++◌, [], map, sym, ap, subst}
use Rattle.scrib_holdback.specs.Reorderings.{IsReordering}
use Rattle.scrib_holdback.specs.HoldBack.{IsHeldBack}
use Rattle.scrib_holdback.specs.Holdings.{Holding, IsAfter}
use Rattle.scrib_holdback.proofs.Outcomes.{reordered}
use Rattle.scrib_holdback.proofs.FalseAlarmLemmas.{no_false_alarm}
use Rattle.scrib_holdback.proofs.holdback.Holdback.finish.Goals as goal

pub returns-clause-waiting : goal.returns-clause-waiting
returns-clause-waiting g c = c.in_ok-waiting.ensures ∙ ap (λ (h : Holding g.row.A.Denot). h.waiting) c.self.view_is

pub returns-clause-held : goal.returns-clause-held
returns-clause-held g c = λ arrivals released h.
    subst (IsHeldBack g.A.Arrival.event arrivals released) (sym c.in_ok-waiting.ensures)
    (subst (λ v. IsAfter g.A.Arrival.event arrivals released [] v) (sym c.self.view_is) h).held

pub returns-clause-law : goal.returns-clause-law
returns-clause-law g c = λ arrivals released h.
    no_false_alarm g.A.Arrival.event arrivals released c.in_ok-waiting.waiting.items
    (subst (IsHeldBack g.A.Arrival.event arrivals released) (sym c.in_ok-waiting.ensures)
    (subst (λ v. IsAfter g.A.Arrival.event arrivals released [] v) (sym c.self.view_is) h).held)

pub returns-clause-reordering : goal.returns-clause-reordering
returns-clause-reordering g c = λ arrivals released expired h.
    (let after = subst (λ v. IsAfter g.A.Arrival.event arrivals released expired v) (sym c.self.view_is) h in
    subst (λ z. IsReordering (map g.A.Arrival.event arrivals) (map g.A.Arrival.event (released ++ z))) (sym c.in_ok-waiting.ensures)
    (reordered g.A.Arrival.event arrivals released expired c.self.inside.waiting.items after.held.holds))
