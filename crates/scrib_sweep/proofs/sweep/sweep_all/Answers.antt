use Rattle.std.proofs.Common.{◌+◌, get_or, subst}
use Rattle.scrib_core.specs.Held.{state_of}
use Rattle.scrib_core.specs.Marks.{IsStale}
use Rattle.scrib_sweep.specs.declared.conversation_turns.End.{End}
use Rattle.scrib_sweep.specs.Sweeps.{IsFirstStale}
use Rattle.scrib_sweep.specs.ConversationTurns.{EndsBy, IsConversationSwept}
use Rattle.scrib_sweep.proofs.TurnEffects.{only_open}
use Rattle.scrib_sweep.proofs.ConversationSweeps.{enough_end}
use Rattle.scrib_sweep.proofs.SweptLists.{stale_covers, stale_count, still_listed, swept_none, next_first, swept_more, stopped_sweep, all_fresh}
use Rattle.scrib_sweep.proofs.sweep.sweep_all.Goals as goal

pub loop-id-init : goal.loop-id-init
loop-id-init c = (0, swept_none (state_of c.args.core.now) c.args.stale.now)

pub turn_until_judged-requires : goal.turn_until_judged-requires
turn_until_judged-requires c =
    let s = state_of c.args.core.now in
    let l = c.loop-id in
    let ids = c.args.stale.now in
    next_first s ids (stale_covers s ids c.requires) l.id-index l.invariant.0 l.id-index (state_of l.core) l.invariant.1 c.loop-id-test.true
    (still_listed s ids c.requires l.id-index l.invariant.0 l.id-index (state_of l.core) l.invariant.1 c.loop-id-test.true)

pub unreachable-requires : goal.unreachable-requires
unreachable-requires c =
    let s = state_of c.args.core.now in
    let l = c.loop-id in
    let t = state_of l.core in
    let u = state_of c.turn_until_judged.new.core in
    let ids = c.args.stale.now in
    let id = get_or c.args.stale.now l.id-index 0 in
    let first : IsFirstStale (state_of l.core) (get_or c.args.stale.now l.id-index 0) =
    next_first s ids (stale_covers s ids c.requires) l.id-index l.invariant.0 l.id-index t l.invariant.1 c.loop-id-test.true
    (still_listed s ids c.requires l.id-index l.invariant.0 l.id-index t l.invariant.1 c.loop-id-test.true) in
    let swept = subst (λ (e : End). IsConversationSwept t id c.enough_turns-limit.result (record { turns = c.turn_until_judged.result.turns; end = e }) u) c.in-Limited.is c.turn_until_judged.ensures in
    enough_end t u id c.enough_turns-limit.result c.turn_until_judged.result.turns (only_open l.core) first c.enough_turns-limit.ensures swept

pub returns-in-Refused-clause-swept : goal.returns-in-Refused-clause-swept
returns-in-Refused-clause-swept c =
    let s = state_of c.args.core.now in
    let l = c.loop-id in
    let t = state_of l.core in
    let ids = c.args.stale.now in
    let id = get_or c.args.stale.now l.id-index 0 in
    let u = state_of c.turn_until_judged.new.core in
    let first : IsFirstStale (state_of l.core) (get_or c.args.stale.now l.id-index 0) =
    next_first s ids (stale_covers s ids c.requires) l.id-index l.invariant.0 l.id-index t l.invariant.1 c.loop-id-test.true
    (still_listed s ids c.requires l.id-index l.invariant.0 l.id-index t l.invariant.1 c.loop-id-test.true) in
    let stale : IsStale (u.marks id) = subst (λ (e : End). EndsBy e u id c.enough_turns-limit.result c.turn_until_judged.result.turns) c.in-Refused.is c.turn_until_judged.ensures.ends in (
      l.invariant.0 + c.turn_until_judged.result.turns,
      stopped_sweep s ids (stale_covers s ids c.requires) l.id-index l.invariant.0 l.id-index t l.invariant.1 c.turn_until_judged.result.turns u c.loop-id-test.true first c.turn_until_judged.ensures.made stale,
    )

pub loop-id-preserved : goal.loop-id-preserved
loop-id-preserved c =
    let s = state_of c.args.core.now in
    let l = c.loop-id in
    let t = state_of l.core in
    let ids = c.args.stale.now in
    let id = get_or c.args.stale.now l.id-index 0 in
    let u = state_of c.turn_until_judged.new.core in
    let first : IsFirstStale (state_of l.core) (get_or c.args.stale.now l.id-index 0) =
    next_first s ids (stale_covers s ids c.requires) l.id-index l.invariant.0 l.id-index t l.invariant.1 c.loop-id-test.true
    (still_listed s ids c.requires l.id-index l.invariant.0 l.id-index t l.invariant.1 c.loop-id-test.true) in
    let fresh = subst (λ (e : End). EndsBy e u id c.enough_turns-limit.result c.turn_until_judged.result.turns) c.in-Judged.is c.turn_until_judged.ensures.ends in (
      l.invariant.0 + c.turn_until_judged.result.turns,
      swept_more s ids (stale_covers s ids c.requires) l.id-index l.invariant.0 l.id-index t l.invariant.1 c.turn_until_judged.result.turns u c.loop-id-test.true first c.turn_until_judged.ensures.made fresh,
    )

pub returns-clause-swept : goal.returns-clause-swept
returns-clause-swept c =
    let s = state_of c.args.core.now in
    let l = c.loop-id in
    let ids = c.args.stale.now in
    let so_far = l.invariant.1 in (
      (l.invariant.0, so_far.sweep),
      all_fresh s ids (stale_covers s ids c.requires) l.id-index l.invariant.0 l.id-index (state_of l.core) l.invariant.1 c.loop-id-test.false,
      stale_count s ids c.requires,
    )
