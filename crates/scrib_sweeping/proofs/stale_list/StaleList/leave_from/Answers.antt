use Rattle.std.proofs.Common.{ℕ, List, drop, subst, sym}
use Rattle.std.specs.Prelude.{IfSome}
use Rattle.scrib_sweeping.specs.StaleLists.{IsRestFrom, left_in}
use Rattle.scrib_sweeping.proofs.ListLemmas.{left_from}
use Rattle.scrib_sweeping.proofs.stale_list.StaleList.leave_from.Goals as goal

pub returns-in-loop-id-clause-some : goal.returns-in-loop-id-clause-some
returns-in-loop-id-clause-some c =
    let l = c.loop-id in
    let old = c.args.self.now in
    subst (λ (ids : List ℕ). IfSome c.args.first (λ id. IsRestFrom id (left_in old) (drop l.self.done ids))) (sym l.invariant.same)
    (left_from c.args.first c.in-Some.first old.ids.items old.done l.self.done c.in-Some.is l.invariant.from l.invariant.below)

pub returns-else-id-first-clause-some : goal.returns-else-id-first-clause-some
returns-else-id-first-clause-some c =
    let l = c.loop-id in
    let old = c.args.self.now in
    subst (λ (ids : List ℕ). IfSome c.args.first (λ id. IsRestFrom id (left_in old) (drop l.self.done ids))) (sym l.invariant.same)
    (left_from c.args.first c.in-Some.first old.ids.items old.done l.self.done c.in-Some.is l.invariant.from l.invariant.below)
