use Rattle.std.proofs.Common.{◌≡◌, ◌+◌, ◌≤◌, ◌∙◌, ℕ, Vec, Global, Some, None, length, slice_get, sym, ap, subst, arith}
use Rattle.std.proofs.lemmas.Bool.{false≢true}
use Rattle.std.proofs.lemmas.List.Filters.{dedup_is}
use Rattle.std.specs.Prelude.{nat_eq}
use Rattle.scrib_core.specs.Held.{state_of}
use Rattle.scrib_sweep.specs.Sweeps.{AreStale}
use Rattle.scrib_sweep.proofs.TurnEffects.{only_open}
use Rattle.scrib_sweep.proofs.StaleLists.{AreStaleBelow, keys, stale_more, stale_past, none_past, stale_all}
use Rattle.scrib_sweep.proofs.stale.stale_conversations.Goals as goal
use Rattle.scrib_sweep.proofs.stale.stale_conversations.Goals.{in-Some+then-is_stale+in_ok-push, in-Some+else-is_stale, in_default}

pub loop-index-preserved : goal.loop-index-preserved
loop-index-preserved c =
    let s = state_of c.args.core.now in
    let l = c.loop-index in
    elim c.match-conversation_at.branch [
      | in-Some+then-is_stale+in_ok-push w ↦
          (let at : slice_get (keys s) l.index ≡ Some w.in-Some.id = sym c.conversation_at.ensures ∙ w.in-Some.is in
          let pushed = w.in_ok-push.ensures.items in
          subst (AreStaleBelow s (l.index + 1)) (sym (ap (λ (v : Vec ℕ Global). v.items) w.ids-is ∙ pushed)) (stale_more s l.index l.ids.items w.in-Some.id l.invariant at (w.is_stale.ensures.0 w.if-is_stale.true)))
      | in-Some+else-is_stale w ↦
          (let at : slice_get (keys s) l.index ≡ Some w.in-Some.id = sym c.conversation_at.ensures ∙ w.in-Some.is in
          subst (AreStaleBelow s (l.index + 1)) (sym (ap (λ (v : Vec ℕ Global). v.items) w.ids-is))
          (stale_past s l.index l.ids.items w.in-Some.id l.invariant at (λ stale. false≢true (sym w.if-is_stale.false ∙ w.is_stale.ensures.1 stale))))
      | in_default w ↦
          (let at : slice_get (keys s) l.index ≡ None = sym c.conversation_at.ensures ∙ w.in_default.is in
          subst (AreStaleBelow s (l.index + 1)) (sym (ap (λ (v : Vec ℕ Global). v.items) w.ids-is)) (none_past s l.index l.ids.items l.invariant at))
    ]

pub returns-clause-listed : goal.returns-clause-listed
returns-clause-listed c =
    let s = state_of c.args.core.now in
    let l = c.loop-index in
    let sorted = c.sort_unstable.new.self.items in
    let end : length s.world.conversations ≤ l.index = omega (arith, c.open_count-index-end.ensures, c.loop-index-test.false) in
    let all = stale_all s l.index l.ids.items c.sort_unstable.new.self.items (only_open c.args.core.now) l.invariant end c.sort_unstable.ensures.permutation c.sort_unstable.ensures.sorted in
    subst (AreStale s) (sym (dedup_is nat_eq sorted c.dedup.new.self.items c.dedup.ensures.filtered)) all
