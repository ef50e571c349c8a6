use Rattle.std.proofs.Common.{[], ◌∷◌, arith}
use Rattle.std.proofs.Math.ListN.{length-append}
use Rattle.std.proofs.lemmas.Result.{IfOk-weaker}
use Rattle.scrib_library.specs.Calls.{AreGathered, AreReaching}
use Rattle.scrib_library.proofs.ReachabilityLemmas.{sifted_caller, sifted_next, reaching_all}
use Rattle.scrib_library.proofs.reaching.reaching.Goals as goal

pub loop-at-preserved-in-Continue-branch-2 : goal.loop-at-preserved-in-Continue-branch-2
loop-at-preserved-in-Continue-branch-2 c =
    let lt = rw c.deref.ensures.value at c.in-Some.ensures in
    let le = c.loop-at.invariant.1 in
    let long = length-append c.loop-at.reached.items (c.remove-caller.result ∷ []) in
    rw (c.remove-caller.ensures.items, c.in_ok-push-in-Some.ensures.items) (
      sifted_caller c.args.edited.now c.args.entries.items c.loop-at.reached.items c.loop-at.waiting.items c.loop-at.at c.loop-at.invariant.0 c.in-Some.place c.remove-caller.result lt c.remove-caller.ensures.value le,
      omega (arith, le, long),
    )

pub loop-at-preserved : goal.loop-at-preserved
loop-at-preserved c =
    let none = rw c.deref.ensures.value at c.in-None.ensures in
    let lt = c.loop-at-test.true in
    (sifted_next c.args.edited.now c.args.entries.items c.loop-at.reached.items c.loop-at.waiting.items c.loop-at.at c.loop-at.invariant.0 c.index.result.now (omega (arith, lt, c.len.ensures)) c.index.ensures none, omega (arith, lt, c.len.ensures))

pub returns : goal.returns
returns c =
    IfOk-weaker c.in_order.result (λ rs. AreGathered c.loop-at.reached.items rs.items) (λ rs. AreReaching c.args.edited.now c.args.entries.items rs.items)
    (λ rs g. reaching_all c.args.edited.now c.args.entries.items c.loop-at.reached.items c.loop-at.waiting.items c.loop-at.at c.loop-at.invariant.0 (omega (arith, c.loop-at-test.false, c.len.ensures)) rs.items g)
    c.in_order.ensures
