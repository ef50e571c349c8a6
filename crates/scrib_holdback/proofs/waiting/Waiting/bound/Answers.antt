use Rattle.std.proofs.Common.{◌≤◌, length, subst, arith}
use Rattle.scrib_holdback.specs.Waiters.{Waiters}
use Rattle.scrib_holdback.proofs.SlotLemmas.{items_fit}
use Rattle.scrib_holdback.proofs.waiting.Waiting.bound.Goals as goal

pub returns-clause-enough : goal.returns-clause-enough
returns-clause-enough g c =
    subst (λ (w : Waiters g.row.A.Denot). length w.items ≤ c.len.result) c.self.view_is
    (omega (arith, items_fit c.self.inside.slots.items, c.len.ensures, c.self.inside.slots.ok.0))
