use Rattle.std.proofs.Common.{◌≡◌, ◌∙◌, ◌<◌, ◌≤◌, ◌+◌, ◌*◌, ℕ, List, [], length, set, reverse, take, refl, sym, ap, subst, arith, rules}
use Rattle.std.specs.List.Sorted.{IsPermutation}
use Rattle.scrib_types.specs.declared.event.Action.TheVariants.{Sends, Receives}
use Rattle.scrib_types.specs.declared.local.Local.{Local}
use Rattle.scrib_types.specs.declared.message.Message.{Message}
use Rattle.scrib_types.specs.LocalView.{local_of, local_branches, local_end, local_var, local_rec, local_send, local_recv}
use Rattle.scrib_types.specs.Trees.{LocalRec, Send, Recv}
use Rattle.scrib_machine.specs.declared.machine.Edge.{Edge}
use Rattle.scrib_machine.specs.Compilable.{Closed, Distinct, nodes, nodes_all, max_nodes}
use Rattle.scrib_machine.specs.Layout.{edges_of, PlacedAll}
use Rattle.scrib_machine.proofs.LayoutLemmas.{placed_end, placed_var, placed_rec, placed_send, placed_recv, all_more, each_next, pushed_as}
use Rattle.scrib_machine.proofs.LayoutConditions.{nodes_at, room_at, closed_at, distinct_at, rec_room, rec_closed, rec_distinct, choice_room}
use Rattle.scrib_machine.proofs.compile.+lay.Goals as goal

pub lay-lay-requires : goal.lay-lay-requires
lay-lay-requires t c =
    let form : local_of c.args.local.now ≡ LocalRec (local_of c.get.result.now) = ap local_of c.in-Rec.is ∙ local_rec c.in-Rec.body ∙ ap (λ (l : Local). LocalRec (local_of l)) (sym c.get.ensures) in
    let falls : 3 * nodes (local_of c.get.result.now) < t = omega (arith, c.decreases, ap nodes form) in (
      falls,
      (
        rec_room (local_of c.args.local.now) (local_of c.get.result.now) (length c.args.rows.now.items) max_nodes form c.requires.room,
        (
          rec_closed (local_of c.args.local.now) (local_of c.get.result.now) 0 c.args.outer.now.items c.push-in-Rec.new.self.items _ form c.in_ok-push-in-Rec.ensures.items c.requires.closed,
          rec_distinct (local_of c.args.local.now) (local_of c.get.result.now) form c.requires.distinct,
        ),
      ),
    )

pub lay-returns-in_ok-push-in-End-clause-placed : goal.lay-returns-in_ok-push-in-End-clause-placed
lay-returns-in_ok-push-in-End-clause-placed t c =
    let at : c.len-at.result ≡ length c.args.rows.now.items = search rules in
    placed_end c.args.rows.now.items c.push.new.self.items (reverse c.args.outer.now.items) (local_of c.args.local.now) c.len-at.result (ap local_of c.in-End.is ∙ local_end) (pushed_as c.args.rows.now.items c.push.new.self.items c.none.result [] c.in_ok-push-in-End.ensures.items c.none.ensures) at

pub lay-returns-in-Var-clause-placed : goal.lay-returns-in-Var-clause-placed
lay-returns-in-Var-clause-placed t c =
    let len : c.len.result ≡ length c.args.outer.now.items = search rules in
    placed_var c.args.rows.now.items c.args.outer.now.items (local_of c.args.local.now) c.in-Var.i c.len.result c.index.result.now (ap local_of c.in-Var.is ∙ local_var c.in-Var.i) c.requires.closed len c.index.ensures

pub lay-returns-in_ok-root-in-Rec-clause-placed : goal.lay-returns-in_ok-root-in-Rec-clause-placed
lay-returns-in_ok-root-in-Rec-clause-placed t c =
    let at : c.len-in-Rec.result ≡ length c.args.rows.now.items = search rules in
    placed_rec c.args.rows.now.items c.lay.new.rows.items c.args.outer.now.items c.push-in-Rec.new.self.items _ (local_of c.args.local.now) (local_of c.get.result.now) c.in_ok-root-in-Rec.root (ap local_of c.in-Rec.is ∙ local_rec c.in-Rec.body ∙ ap (λ (l : Local). LocalRec (local_of l)) (sym c.get.ensures)) c.in_ok-push-in-Rec.ensures.items at c.in_ok-root-in-Rec.ensures.placed

pub lay_all-lay-requires : goal.lay_all-lay-requires
lay_all-lay-requires t c = (
  (
      let falls : 3 * nodes (local_of c.loop-local-item.result.1) < t = omega (arith, c.decreases, nodes_at c.args.branches.now c.loop-local.local-index c.loop-local-item.result c.loop-local-item.is c.loop-local-test.true) in falls
      ),
  (
    room_at c.args.rows.now.items c.loop-local.rows.items (reverse c.loop-local.outer.items) c.args.branches.now c.loop-local.local-index c.loop-local-item.result c.loop-local.nexts.items max_nodes c.requires.room c.loop-local.invariant.0 c.loop-local-item.is c.loop-local-test.true,
    (
      closed_at c.args.branches.now c.loop-local.local-index (length c.args.outer.now.items) (length c.loop-local.outer.items) c.loop-local-item.result c.requires.closed c.loop-local-item.is c.loop-local-test.true (ap length c.loop-local.invariant.1),
      distinct_at c.args.branches.now c.loop-local.local-index c.loop-local-item.result c.requires.distinct c.loop-local-item.is c.loop-local-test.true,
    ),
  ),
)

pub lay_all-loop-local-preserved : goal.lay_all-loop-local-preserved
lay_all-loop-local-preserved t c =
    let env : reverse c.loop-local.outer.items ≡ reverse c.lay.new.outer.items = ap reverse (sym c.in_ok-next.ensures.outer) in (
      subst (λ (e : List ℕ). PlacedAll c.args.rows.now.items c.lay.new.rows.items e (local_branches (take (c.loop-local.local-index + 1) c.args.branches.now)) c.push.new.self.items) env
          (all_more c.args.rows.now.items c.loop-local.rows.items c.lay.new.rows.items (reverse c.loop-local.outer.items) c.args.branches.now c.loop-local.local-index c.loop-local-item.result c.loop-local.nexts.items c.push.new.self.items c.in_ok-next.next c.loop-local-test.true c.loop-local-item.is c.loop-local.invariant.0 c.in_ok-next.ensures.placed c.in_ok-push.ensures.ok),
      c.in_ok-next.ensures.outer ∙ c.loop-local.invariant.1,
    )

pub lay-lay_sends-requires : goal.lay-lay_sends-requires
lay-lay_sends-requires t c =
    let form : local_of c.args.local.now ≡ Send c.in-Send.to (local_branches c.as_slice.result.now) = ap local_of c.in-Send.is ∙ local_send c.in-Send.to c.in-Send.branches ∙ ap (λ (bs : List (Message × Local)). Send c.in-Send.to (local_branches bs)) (sym c.as_slice.ensures) in
    let falls : 3 * nodes_all (local_branches c.as_slice.result.now) + 2 < t = omega (arith, c.decreases, ap nodes form) in (
      falls,
      (
        subst (λ x. length c.args.rows.now.items + nodes x ≤ max_nodes) form c.requires.room,
        (
          subst (λ x. Closed x (length c.args.outer.now.items)) form c.requires.closed,
          subst (λ x. Distinct x) form c.requires.distinct,
        ),
      ),
    )

pub lay_sends-lay_all-requires : goal.lay_sends-lay_all-requires
lay_sends-lay_all-requires t c =
    let falls : 3 * nodes_all (local_branches c.args.branches.now) + 1 < t = omega (arith, c.decreases) in (
      falls,
      (
        choice_room (Send c.args.to.now (local_branches c.args.branches.now)) (Send c.args.to.now (local_branches c.args.branches.now)) (local_branches c.args.branches.now) c.args.rows.now.items c.push.new.self.items c.none.result max_nodes refl refl c.in_ok-push.ensures.items c.requires.room,
        (c.requires.closed, c.requires.distinct.1),
      ),
    )

pub lay_sends-sends-requires-clause-each : goal.lay_sends-sends-requires-clause-each
lay_sends-sends-requires-clause-each t c =
    ap length c.as_slice.ensures
    ∙ each_next c.lay_all.new.rows.items (reverse c.args.outer.now.items) c.args.branches.now (length c.push.new.self.items) c.in_ok-nexts.nexts.items c.in_ok-nexts.ensures.placed.laid

pub lay_sends-returns-clause-placed : goal.lay_sends-returns-clause-placed
lay_sends-returns-clause-placed t c =
    let bs : List (Message × Local) = c.args.branches.now in
    let ks : List ℕ = c.in_ok-nexts.nexts.items in
    let es : List Edge = c.in_ok-rows.field-0 in
    let same : IsPermutation (edges_of (Sends c.args.to.now) (local_branches bs) ks) es =
    subst (λ (xs : List ℕ). IsPermutation (edges_of (Sends c.args.to.now) (local_branches bs) xs) es) c.as_slice.ensures c.in_ok-rows.ensures.same in
    let at : c.len-at.result ≡ length c.args.rows.now.items = search rules in
    placed_send c.args.rows.now.items c.push.new.self.items c.lay_all.new.rows.items _ (reverse c.args.outer.now.items) (Send c.args.to.now (local_branches bs)) c.args.to.now (local_branches bs) ks es c.len-at.result
    refl
    (pushed_as c.args.rows.now.items c.push.new.self.items c.none.result [] c.in_ok-push.ensures.items c.none.ensures)
    c.in_ok-nexts.ensures.placed (ap (λ n. set c.lay_all.new.rows.items n es) at) same c.in_ok-rows.ensures.sorted at

pub lay-lay_receptions-requires : goal.lay-lay_receptions-requires
lay-lay_receptions-requires t c =
    let form : local_of c.args.local.now ≡ Recv c.in-Recv.from (local_branches c.as_slice-in-Recv.result.now) = ap local_of c.in-Recv.is ∙ local_recv c.in-Recv.from c.in-Recv.branches ∙ ap (λ (bs : List (Message × Local)). Recv c.in-Recv.from (local_branches bs)) (sym c.as_slice-in-Recv.ensures) in
    let falls : 3 * nodes_all (local_branches c.as_slice-in-Recv.result.now) + 2 < t = omega (arith, c.decreases, ap nodes form) in (
      falls,
      (
        subst (λ x. length c.args.rows.now.items + nodes x ≤ max_nodes) form c.requires.room,
        (
          subst (λ x. Closed x (length c.args.outer.now.items)) form c.requires.closed,
          subst (λ x. Distinct x) form c.requires.distinct,
        ),
      ),
    )

pub lay_receptions-lay_all-requires : goal.lay_receptions-lay_all-requires
lay_receptions-lay_all-requires t c =
    let falls : 3 * nodes_all (local_branches c.args.branches.now) + 1 < t = omega (arith, c.decreases) in (
      falls,
      (
        choice_room (Recv c.args.from.now (local_branches c.args.branches.now)) (Recv c.args.from.now (local_branches c.args.branches.now)) (local_branches c.args.branches.now) c.args.rows.now.items c.push.new.self.items c.none.result max_nodes refl refl c.in_ok-push.ensures.items c.requires.room,
        (c.requires.closed, c.requires.distinct.1),
      ),
    )

pub lay_receptions-receptions-requires-clause-each : goal.lay_receptions-receptions-requires-clause-each
lay_receptions-receptions-requires-clause-each t c =
    ap length c.as_slice.ensures
    ∙ each_next c.lay_all.new.rows.items (reverse c.args.outer.now.items) c.args.branches.now (length c.push.new.self.items) c.in_ok-nexts.nexts.items c.in_ok-nexts.ensures.placed.laid

pub lay_receptions-returns-clause-placed : goal.lay_receptions-returns-clause-placed
lay_receptions-returns-clause-placed t c =
    let bs : List (Message × Local) = c.args.branches.now in
    let ks : List ℕ = c.in_ok-nexts.nexts.items in
    let es : List Edge = c.in_ok-rows.field-0 in
    let same : IsPermutation (edges_of (Receives c.args.from.now) (local_branches bs) ks) es =
    subst (λ (xs : List ℕ). IsPermutation (edges_of (Receives c.args.from.now) (local_branches bs) xs) es) c.as_slice.ensures c.in_ok-rows.ensures.same in
    let at : c.len-at.result ≡ length c.args.rows.now.items = search rules in
    placed_recv c.args.rows.now.items c.push.new.self.items c.lay_all.new.rows.items _ (reverse c.args.outer.now.items) (Recv c.args.from.now (local_branches bs)) c.args.from.now (local_branches bs) ks es c.len-at.result
    refl
    (pushed_as c.args.rows.now.items c.push.new.self.items c.none.result [] c.in_ok-push.ensures.items c.none.ensures)
    c.in_ok-nexts.ensures.placed (ap (λ n. set c.lay_all.new.rows.items n es) at) same c.in_ok-rows.ensures.sorted at
