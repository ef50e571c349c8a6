use Rattle.std.proofs.Common.{◌≡◌, ◌∙◌, ◌+◌, ◌≤◌, ℕ, List, Some, refl, sym, ap, subst, arith}
use Rattle.std.specs.Option.{option_copied}
use Rattle.scrib_types.specs.declared.event.Told.{Told}
use Rattle.scrib_types.specs.declared.event.Told.TheVariants.{Stale, Judged}
use Rattle.scrib_record.specs.Stale.{Recorded}
use Rattle.scrib_core.specs.ConversationSteps.{IsPresent}
use Rattle.scrib_core.specs.Held.{record_at}
use Rattle.scrib_locked_steps.specs.Sweeping.{IsTurnedUnder}
use Rattle.scrib_locked_steps.proofs.ServingLemmas.{present_copied}
use Rattle.scrib_locked_steps.proofs.SweepLemmas.{same_some, same_but_itself, swept_none, swept_stale, swept_turn, swept_fresh, fewer_turns, under_for, under_here, under_served}
use Rattle.scrib_locked_steps.proofs.sweep.sweep_conversation.Goals as goal

pub loop-verdict-init : goal.loop-verdict-init
loop-verdict-init c =
    let r = c.in-Some.conversation.now in
    let there : record_at c.args.shard.now.records c.args.id ≡ Some r = sym c.record.ensures ∙ ap option_copied c.in-Some.is in
    let here : IsPresent c.args.library.now r.name (option_copied c.present-present.result) =
    subst (λ (n : List (List ℕ)). IsPresent c.args.library.now n (option_copied c.present-present.result)) c.name.ensures (present_copied c.args.library.now c.name.result.now c.present-present.result c.present-present.ensures.meaning c.present-present.ensures.number) in
    record {
      swept = swept_none c.args.library.now c.args.id c.args.shard.now.records c.requires;
      here = λ q e. subst (λ (w : Recorded). IsPresent c.args.library.now w.name (option_copied c.present-present.result)) (same_some r q (sym there ∙ e)) here;
      served = (r, there, tt);
      fewer = omega arith;
      limit = refl;
    }

pub returns-in-Judged-clause-fresh : goal.returns-in-Judged-clause-fresh
returns-in-Judged-clause-fresh c =
    let l = c.loop-verdict in
    let h = c.args.library.now in
    let p = option_copied c.present-present.result in
    let u : IsTurnedUnder p l.shard.records c.args.id (Judged c.in-Judged.field-0) c.turn_under.new.shard.records =
    subst (λ (t : Told). IsTurnedUnder p l.shard.records c.args.id t c.turn_under.new.shard.records) c.in-Judged.is c.in_ok-verdict.ensures.ok in
    let x = under_for h c.args.id p l.shard.records c.turn_under.new.shard.records (Judged c.in-Judged.field-0) u (l.invariant.here u.before u.there) in
    (swept_fresh h c.args.id l.turns c.args.shard.now.records l.shard.records c.turn_under.new.shard.records c.are_numbered.ensures.numbers c.are_numbered.ensures.once l.invariant.swept c.in-Judged.field-0 x).1

pub returns-in-Judged-clause-same : goal.returns-in-Judged-clause-same
returns-in-Judged-clause-same c =
    let l = c.loop-verdict in
    let h = c.args.library.now in
    let p = option_copied c.present-present.result in
    let u : IsTurnedUnder p l.shard.records c.args.id (Judged c.in-Judged.field-0) c.turn_under.new.shard.records =
    subst (λ (t : Told). IsTurnedUnder p l.shard.records c.args.id t c.turn_under.new.shard.records) c.in-Judged.is c.in_ok-verdict.ensures.ok in
    let x = under_for h c.args.id p l.shard.records c.turn_under.new.shard.records (Judged c.in-Judged.field-0) u (l.invariant.here u.before u.there) in
    (swept_fresh h c.args.id l.turns c.args.shard.now.records l.shard.records c.turn_under.new.shard.records c.are_numbered.ensures.numbers c.are_numbered.ensures.once l.invariant.swept c.in-Judged.field-0 x).0

pub returns-in-Judged-clause-turned : goal.returns-in-Judged-clause-turned
returns-in-Judged-clause-turned c =
    let l = c.loop-verdict in
    let h = c.args.library.now in
    let p = option_copied c.present-present.result in
    let u : IsTurnedUnder p l.shard.records c.args.id (Judged c.in-Judged.field-0) c.turn_under.new.shard.records =
    subst (λ (t : Told). IsTurnedUnder p l.shard.records c.args.id t c.turn_under.new.shard.records) c.in-Judged.is c.in_ok-verdict.ensures.ok in
    let x = under_for h c.args.id p l.shard.records c.turn_under.new.shard.records (Judged c.in-Judged.field-0) u (l.invariant.here u.before u.there) in
    swept_turn h c.args.id l.turns c.args.shard.now.records l.shard.records c.turn_under.new.shard.records c.are_numbered.ensures.numbers c.are_numbered.ensures.once l.invariant.swept (Judged c.in-Judged.field-0) x

pub loop-verdict-preserved : goal.loop-verdict-preserved
loop-verdict-preserved c =
    let l = c.loop-verdict in
    let h = c.args.library.now in
    let p = option_copied c.present-present.result in
    let new = c.turn_under.new.shard.records in
    let u : IsTurnedUnder p l.shard.records c.args.id Stale new = subst (λ (t : Told). IsTurnedUnder p l.shard.records c.args.id t new) c.in-Stale.is c.in_ok-verdict.ensures.ok in
    let before = l.invariant.here u.before u.there in
    let x = under_for h c.args.id p l.shard.records new Stale u before in
    let few : l.turns + 1 ≤ 4096 = omega arith in
    let swept = swept_stale h c.args.id l.turns c.args.shard.now.records l.shard.records new c.are_numbered.ensures.numbers c.are_numbered.ensures.once l.invariant.swept x in
    record {
      swept = swept;
      here = under_here h c.args.id p l.shard.records new Stale u before;
      served = under_served h c.args.id p l.shard.records new Stale u;
      fewer = fewer_turns h c.args.id (l.turns + 1) c.args.shard.now.records new c.len-conversations.ensures.kept.lawful few swept;
      limit = c.turn_under.ensures.limit ∙ l.invariant.limit;
    }

pub returns-in_default-clause-err : goal.returns-in_default-clause-err
returns-in_default-clause-err c = (0, refl)

pub returns-in_default-clause-same : goal.returns-in_default-clause-same
returns-in_default-clause-same c = same_but_itself c.args.id c.args.shard.now.records
