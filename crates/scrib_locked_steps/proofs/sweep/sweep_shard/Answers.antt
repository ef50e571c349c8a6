use Rattle.std.proofs.Common.{◌≡◌, ◌+◌, ◌<◌, ◌≤◌, ◌∙◌, ℕ, Result, Ok, Err, OnErr, length, get_or, refl, sym, subst, arith}
use Rattle.std.proofs.lemmas.List.{get_or_default}
use Rattle.scrib_locked_steps.specs.Sweeping.{AreStaleIds, AreTurns, AreSomeTurns}
use Rattle.scrib_locked_steps.proofs.SweepLemmas.{sweep_none, sweep_more, turns_both, few_touched}
use Rattle.scrib_locked_steps.proofs.sweep.sweep_shard.Goals as goal

pub loop-id-init : goal.loop-id-init
loop-id-init c =
    let ids = c.deref-id-items.result.now in
    let old = c.args.shard.now.records in
    record {
      swept = sweep_none c.args.library.now old ids (subst (AreStaleIds c.args.library.now old) (sym c.deref-id-items.ensures.value) c.in_ok-touched.ensures);
      limit = refl;
      turned = refl;
      judged = refl;
      some = omega arith;
      few = omega arith;
    }

pub sweep_conversation-requires : goal.sweep_conversation-requires
sweep_conversation-requires c =
    let within : c.loop-id.id-index < length c.deref-id-items.result.now = omega arith in
    c.loop-id.invariant.swept.stale c.loop-id.id-index 0 (omega arith) within

pub loop-id-preserved : goal.loop-id-preserved
loop-id-preserved c =
    let ids = c.deref-id-items.result.now in
    let i = c.loop-id.id-index in
    let within : i < length ids = omega arith in
    let old = c.args.shard.now.records in
    let touched = subst (AreStaleIds c.args.library.now old) (sym c.deref-id-items.ensures.value) c.in_ok-touched.ensures in
    let few : length ids ≤ 65536 = omega (arith, few_touched c.args.library.now old ids touched, c.len-conversations.ensures.kept.limited, c.len-conversations.ensures.kept.few) in
    let all : c.loop-id.swept.turns + c.in_ok-turns.turns ≡ c.saturating_add.result =
    omega (arith, c.saturating_add.ensures, c.in_ok-turns.ensures.few, c.loop-id.invariant.few, few, within) in
    record {
      swept = sweep_more c.args.library.now ids i (get_or ids i 0) old c.loop-id.shard.records c.sweep_conversation.new.shard.records within
          (get_or_default ids i 0 (get_or ids i 0) within) touched.rise c.loop-id.invariant.swept c.sweep_conversation.ensures.same c.in_ok-turns.ensures.fresh;
      limit = c.sweep_conversation.ensures.limit ∙ c.loop-id.invariant.limit;
      turned = subst (λ (n : ℕ). AreTurns c.args.library.now n old c.sweep_conversation.new.shard.records) all
          (turns_both c.args.library.now c.loop-id.swept.turns c.in_ok-turns.turns old c.loop-id.shard.records c.sweep_conversation.new.shard.records
          c.loop-id.invariant.turned c.in_ok-turns.ensures.turned);
      judged = omega (arith, c.saturating_add-in-loop-id.ensures, c.loop-id.invariant.judged, few, within);
      some = omega (arith, all, c.in_ok-turns.ensures.some, c.loop-id.invariant.some);
      few = omega (arith, all, c.in_ok-turns.ensures.few, c.loop-id.invariant.few);
    }

when_err : {X E : Type 0} (r : Result X E) (P : Type 0) → P → OnErr r P
when_err (Ok x) P p = tt
when_err (Err e) P p = p

pub returns-in_err-turns-clause-err : goal.returns-in_err-turns-clause-err
returns-in_err-turns-clause-err c =
    let h = c.args.library.now in
    let old = c.args.shard.now.records in
    let new = c.sweep_conversation.new.shard.records in
    let more = c.in_err-turns.ensures.err in
    when_err c.from_residual-in_err-turns.result (AreSomeTurns h old new)
    (c.loop-id.swept.turns + more.0, turns_both h c.loop-id.swept.turns more.0 old c.loop-id.shard.records new c.loop-id.invariant.turned more.1)
