use Rattle.std.proofs.Common.{◌≡◌, ◌∙◌, refl, sym, subst, [], ℕ, List, IfNone, arith}
use Rattle.scrib_holdback.proofs.SlotLemmas.{positions_past, positions_read, has_positions}
use Rattle.scrib_holdback.proofs.WaitingLemmas.{none_left}
use Rattle.scrib_holdback.proofs.lanes.pop_position.Goals as goal

pub returns-clause-left : goal.returns-clause-left
returns-clause-left c =
    let lane = c.index_mut-lane.result.now in
    let at = positions_read c.args.lanes.now.items c.args.place lane (omega arith) c.index_mut-lane.ensures.value in (
      c.pop_front.new.self.items,
      at ∙ c.pop_front.ensures.items,
      has_positions c.args.lanes.now.items c.args.place lane record { role = lane.role; positions = c.pop_front.new.self } c.pop_front.new.self.items (omega arith) c.index_mut-lane.ensures.value refl refl,
    )

pub returns-then-place-len-clause-empty : goal.returns-then-place-len-clause-empty
returns-then-place-len-clause-empty c = positions_past c.args.lanes.now.items c.args.place (omega arith)

pub returns-clause-empty : goal.returns-clause-empty
returns-clause-empty c =
    let lane = c.index_mut-lane.result.now in
    let at = positions_read c.args.lanes.now.items c.args.place lane (omega arith) c.index_mut-lane.ensures.value in
    subst (λ (z : List ℕ). IfNone c.pop_front.result (z ≡ [])) (sym at)
    (none_left lane.positions.items c.pop_front.result (λ long. c.pop_front.ensures.variant.1 (omega (arith, long, lane.positions.ok.0))))
