use Rattle.std.proofs.Common.{sym, ◌∙◌}
use Rattle.std.proofs.lemmas.Bool.{false≢true}
use Rattle.scrib_library.proofs.ReachabilityLemmas.{sifted_own, sifted_other}
use Rattle.scrib_library.proofs.reaching.start_worklist.Goals as goal

pub loop-entry-preserved-in-Continue-1 : goal.loop-entry-preserved-in-Continue-1
loop-entry-preserved-in-Continue-1 c =
    rw c.in_ok-push.ensures.items (sifted_own c.args.edited.now c.loop-entry.yielded c.loop-entry.reached.items c.loop-entry.waiting.items c.in-Some.entry c.loop-entry.invariant)

pub loop-entry-preserved : goal.loop-entry-preserved
loop-entry-preserved c =
    rw c.in_ok-push-2.ensures.items (sifted_other c.args.edited.now c.loop-entry.yielded c.loop-entry.reached.items c.loop-entry.waiting.items c.in-Some.entry c.loop-entry.invariant (λ e. false≢true (sym c.if-equal.false ∙ c.equal.ensures.1 (sym e))))
