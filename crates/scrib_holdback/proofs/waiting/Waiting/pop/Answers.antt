use Rattle.std.proofs.Common.{◌≡◌, ◌∙◌, ◌-◌, Some, None, length, get_or, set, ap, subst, arith}
use Rattle.scrib_holdback.specs.Waiters.{Waiters}
use Rattle.scrib_holdback.specs.Lanes.{waiting_items, lane_roles, TakesFirst, IsTrimmed}
use Rattle.scrib_holdback.proofs.WaitingLemmas.{first_item, popped, lane_empty, taken_out}
use Rattle.scrib_holdback.proofs.waiting.Waiting.pop.Goals as goal

pub returns-in_err-position-clause-taken : goal.returns-in_err-position-clause-taken
returns-in_err-position-clause-taken g c =
    rw c.from_residual.ensures
    (rw (← c.self.view_is)
    (lane_empty g.A.Arrival.event c.self.inside.lanes.items c.self.inside.slots.items c.self.inside.pushed c.args.place c.self.invariant c.in_err-position.ensures.empty))

pub overflow_sub-index-2 : goal.overflow_sub-index-2
overflow_sub-index-2 g c =
    let k = first_item g.A.Arrival.event c.self.inside.lanes.items c.self.inside.slots.items c.self.inside.pushed c.args.place c.in_ok-position.position _ c.self.invariant
    c.in_ok-position.ensures.left.1 in
    omega (arith, k.above, c.len.ensures, c.self.inside.slots.ok.0)

pub index_mut-requires : goal.index_mut-requires
index_mut-requires g c =
    let k = first_item g.A.Arrival.event c.self.inside.lanes.items c.self.inside.slots.items c.self.inside.pushed c.args.place c.in_ok-position.position _ c.self.invariant
    c.in_ok-position.ensures.left.1 in
    omega (arith, k.within, c.len.ensures, c.self.inside.slots.ok.0)

pub invariant_of-self-2 : goal.invariant_of-self-2
invariant_of-self-2 g c =
    let index = ap (λ n. c.in_ok-position.position - (c.self.inside.pushed - n)) (c.len.ensures ∙ c.self.inside.slots.ok.0) in
    let slots : set c.self.inside.slots.items (c.in_ok-position.position - (c.self.inside.pushed - c.len.result)) c.take-arrival.new.self ≡ set c.self.inside.slots.items (c.in_ok-position.position - (c.self.inside.pushed - length c.self.inside.slots.items)) None =
    ap (set c.self.inside.slots.items (c.in_ok-position.position - (c.self.inside.pushed - c.len.result))) c.take-arrival.ensures.after ∙ ap (λ n. set c.self.inside.slots.items n None) index in
    (popped g.A.Arrival.event c.self.inside.lanes.items c.pop_position.new.lanes.items c.self.inside.slots.items c.trim.new.slots.items c.self.inside.pushed c.args.place c.in_ok-position.position
    c.in_ok-position.ensures.left.0 c.self.invariant c.in_ok-position.ensures.left.1 c.in_ok-position.ensures.left.2
    (subst (λ z. IsTrimmed z c.trim.new.slots.items) slots c.trim.ensures.trimmed) c.trim.ensures.full).laid

pub returns-clause-taken : goal.returns-clause-taken
returns-clause-taken g c =
    let index = ap (λ n. c.in_ok-position.position - (c.self.inside.pushed - n)) (c.len.ensures ∙ c.self.inside.slots.ok.0) in
    let slots : set c.self.inside.slots.items (c.in_ok-position.position - (c.self.inside.pushed - c.len.result)) c.take-arrival.new.self ≡ set c.self.inside.slots.items (c.in_ok-position.position - (c.self.inside.pushed - length c.self.inside.slots.items)) None =
    ap (set c.self.inside.slots.items (c.in_ok-position.position - (c.self.inside.pushed - c.len.result))) c.take-arrival.ensures.after ∙ ap (λ n. set c.self.inside.slots.items n None) index in
    let k = popped g.A.Arrival.event c.self.inside.lanes.items c.pop_position.new.lanes.items c.self.inside.slots.items c.trim.new.slots.items c.self.inside.pushed c.args.place c.in_ok-position.position
    c.in_ok-position.ensures.left.0 c.self.invariant c.in_ok-position.ensures.left.1 c.in_ok-position.ensures.left.2
    (subst (λ z. IsTrimmed z c.trim.new.slots.items) slots c.trim.ensures.trimmed) c.trim.ensures.full in
    let read : c.take-arrival.result ≡ Some k.x = c.take-arrival.ensures.value ∙ c.index_mut.ensures.value ∙ ap (λ n. get_or c.self.inside.slots.items n c.index_mut.result.now) index ∙ k.slot c.index_mut.result.now in
    let now : Waiters g.row.A.Denot = record { roles = lane_roles c.pop_position.new.lanes.items; items = waiting_items c.trim.new.slots.items; pushed = c.self.inside.pushed } in
    taken_out g.A.Arrival.event c.args.place c.args.self.now now c.take-arrival.result k.x read
    (subst (λ (w : Waiters g.row.A.Denot). TakesFirst g.A.Arrival.event c.args.place w now k.x) c.self.view_is k.taken)
