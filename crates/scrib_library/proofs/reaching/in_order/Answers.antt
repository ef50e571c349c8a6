use Rattle.scrib_library.proofs.ReachabilityLemmas.{gathered_none, gathered_new, gathered_found}
use Rattle.scrib_library.proofs.reaching.in_order.Goals as goal

pub loop-entry-init : goal.loop-entry-init
loop-entry-init c = rw c.in_ok-sorted.ensures.items gathered_none

pub loop-entry-preserved-in-Continue-branch-2 : goal.loop-entry-preserved-in-Continue-branch-2
loop-entry-preserved-in-Continue-branch-2 c =
    let gap = rw c.deref.ensures.value at c.in-Err.ensures.gap in
    rw c.in_ok-insert.ensures.items (gathered_new c.loop-entry.yielded c.loop-entry.sorted.items c.in-Some.entry c.in-Err.place c.loop-entry.invariant gap)

pub loop-entry-preserved : goal.loop-entry-preserved
loop-entry-preserved c =
    let at = rw c.deref.ensures.value at c.in_default.ensures.found in
    gathered_found c.loop-entry.yielded c.loop-entry.sorted.items c.in-Some.entry c.in_default.field-0 c.loop-entry.invariant at
