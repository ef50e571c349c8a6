use Rattle.std.proofs.Common.{◌≡◌, ◌+◌, ◌-◌, ◌∙◌, ℕ, true, get_or, subst, arith}
use Rattle.scrib_core.specs.Held.{state_of}
use Rattle.scrib_sweep.specs.declared.conversation_turns.End.{End}
use Rattle.scrib_sweep.specs.declared.conversation_turns.End.TheVariants as end
use Rattle.scrib_sweep.specs.Sweeps.{IsFirstStale}
use Rattle.scrib_sweep.specs.ConversationTurns.{EndsBy}
use Rattle.scrib_sweep.proofs.SweptLists.{IsSweptSoFar, next_first, swept_more, swept_past, stopped, all_fresh, nothing_left, not_stale}
use Rattle.scrib_sweep.proofs.sweep.sweep_some.Goals as goal
use Rattle.scrib_sweep.proofs.sweep.sweep_some.Goals.{then-is_stale+in-Judged, else-is_stale, in-Refused, in_default-matches}

pub turn_until_judged-made-requires : goal.turn_until_judged-made-requires
turn_until_judged-made-requires c =
    let l = c.loop-index in
    next_first (state_of c.args.core.now) c.args.listed.now c.requires l.index (64 - l.limit) l.judged (state_of l.core) l.invariant.so_far c.loop-index-test.true (c.is_stale.ensures.0 c.if-is_stale.true)

pub returns-in_default : goal.returns-in_default
returns-in_default c =
    let l = c.loop-index in
    let first : IsFirstStale (state_of l.core) (get_or c.args.listed.now l.index 0) =
    next_first (state_of c.args.core.now) c.args.listed.now c.requires l.index (64 - l.limit) l.judged (state_of l.core) l.invariant.so_far c.loop-index-test.true (c.is_stale.ensures.0 c.if-is_stale.true) in
    let u = state_of c.turn_until_judged-made.new.core in
    let made = c.turn_until_judged-made.result in
    let ends = subst (λ (e : End). EndsBy e u (get_or c.args.listed.now l.index 0) l.limit made.turns) c.in_default.end-is c.turn_until_judged-made.ensures.ends in
    let other : c.in_default.end ≡ end.Judged → ⊥ = λ e. c.in_default.not-Judged (c.in_default.end-is ∙ e) in
    let memory : c.in_default.end ≡ end.Refused → c.match-matches.matches ≡ true = λ e. elim c.match-matches.branch [
      | in-Refused w ↦ w.matches-is
      | in_default-matches w ↦ absurd (w.in_default-matches.not-Refused (c.in_default.end-is ∙ e))
    ] in
    stopped (state_of c.args.core.now) c.args.listed.now c.requires l.index l.limit l.judged (state_of l.core) l.invariant.so_far made.turns u c.loop-index-test.true first c.turn_until_judged-made.ensures.made
    l.invariant.few c.turn_until_judged-made.ensures.few c.in_default.end ends other c.split_at.result.1 c.match-matches.matches c.split_at.ensures.back memory

pub loop-index-preserved : goal.loop-index-preserved
loop-index-preserved c =
    let s = state_of c.args.core.now in
    let l = c.loop-index in
    let t = state_of l.core in
    let ids = c.args.listed.now in
    let id = get_or c.args.listed.now l.index 0 in
    elim c.if-is_stale.branch [
      | then-is_stale+in-Judged w ↦
          (let made = w.turn_until_judged-made.result in
          let u = state_of w.turn_until_judged-made.new.core in
          let few = w.turn_until_judged-made.ensures.few in
          let first : IsFirstStale (state_of l.core) (get_or c.args.listed.now l.index 0) = next_first s ids c.requires l.index (64 - l.limit) l.judged t l.invariant.so_far c.loop-index-test.true (c.is_stale.ensures.0 w.if-is_stale.true) in
          let fresh = subst (λ (e : End). EndsBy e u id l.limit made.turns) w.in-Judged.is w.turn_until_judged-made.ensures.ends in
          let more = swept_more s ids c.requires l.index (64 - l.limit) l.judged t l.invariant.so_far made.turns u c.loop-index-test.true first w.turn_until_judged-made.ensures.made fresh in
          let most = l.invariant.few in
          let turns : (64 - l.limit) + made.turns ≡ 64 - (l.limit - made.turns) = omega (arith, few, most) in
          record {
            few = omega (arith, w.limit-is, most);
            counted = omega (arith, w.judged-is, l.invariant.counted);
            so_far = rw (w.limit-is, w.judged-is, w.core-is) (subst (λ (n : ℕ). IsSweptSoFar s ids (l.index + 1) n (l.judged + 1) u) turns more);
          })
      | else-is_stale w ↦
          (let past = swept_past s ids c.requires l.index (64 - l.limit) l.judged t l.invariant.so_far (not_stale (t.marks id) c.is_stale.result w.if-is_stale.false c.is_stale.ensures.1) in
          record {
            few = omega (arith, w.limit-is, l.invariant.few);
            counted = omega (arith, w.judged-is, l.invariant.counted);
            so_far = rw (w.limit-is, w.judged-is, w.core-is) past;
          })
    ]

pub returns : goal.returns
returns c =
    let s = state_of c.args.core.now in
    let l = c.loop-index in
    let ids = c.args.listed.now in
    let so_far = l.invariant.so_far in
    record {
      turns = 64 - l.limit;
      sweep = so_far.sweep;
      few = omega arith;
      judged = so_far.renewed;
      left = nothing_left (state_of l.core) (all_fresh s ids c.requires l.index (64 - l.limit) l.judged (state_of l.core) l.invariant.so_far c.loop-index-test.false);
      enough = λ some. absurd (omega (arith, some));
    }
