use Rattle.std.proofs.Common.{◌≡◌, ◌∙◌, ◌-◌, Some, MatchOption, get_or, sym, ap, subst, arith}
use Rattle.scrib_holdback.specs.Waiters.{Waiters}
use Rattle.scrib_holdback.specs.Lanes.{positions_at, HasNone, IsFirstItem}
use Rattle.scrib_holdback.proofs.WaitingLemmas.{first_item, lane_empty, first_lent}
use Rattle.scrib_holdback.proofs.waiting.Waiting.first.Goals as goal

pub returns-in_err-position : goal.returns-in_err-position
returns-in_err-position g c =
    rw c.from_residual.ensures
    (rw (← c.self.view_is)
    (lane_empty g.A.Arrival.event c.self.inside.lanes.items c.self.inside.slots.items c.self.inside.pushed c.args.place c.self.invariant
    (ap (λ z. positions_at z c.args.place) (sym c.deref.ensures.value) ∙ c.in_err-position.ensures)))

pub overflow_sub-index-2 : goal.overflow_sub-index-2
overflow_sub-index-2 g c =
    let k = first_item g.A.Arrival.event c.self.inside.lanes.items c.self.inside.slots.items c.self.inside.pushed c.args.place c.in_ok-position.position _ c.self.invariant
    (ap (λ z. positions_at z c.args.place) (sym c.deref.ensures.value) ∙ c.in_ok-position.ensures.1) in
    omega (arith, k.above, c.len.ensures, c.self.inside.slots.ok.0)

pub index-requires : goal.index-requires
index-requires g c =
    let k = first_item g.A.Arrival.event c.self.inside.lanes.items c.self.inside.slots.items c.self.inside.pushed c.args.place c.in_ok-position.position _ c.self.invariant
    (ap (λ z. positions_at z c.args.place) (sym c.deref.ensures.value) ∙ c.in_ok-position.ensures.1) in
    omega (arith, k.within, c.len.ensures, c.self.inside.slots.ok.0)

pub returns : goal.returns
returns g c =
    let k = first_item g.A.Arrival.event c.self.inside.lanes.items c.self.inside.slots.items c.self.inside.pushed c.args.place c.in_ok-position.position _ c.self.invariant
    (ap (λ z. positions_at z c.args.place) (sym c.deref.ensures.value) ∙ c.in_ok-position.ensures.1) in
    let index = ap (λ n. c.in_ok-position.position - (c.self.inside.pushed - n)) (c.len.ensures ∙ c.self.inside.slots.ok.0) in
    let read : c.index.result.now ≡ Some k.x = c.index.ensures ∙ ap (λ n. get_or c.self.inside.slots.items n c.index.result.now) index ∙ k.slot c.index.result.now in
    subst (λ (w : Waiters g.row.A.Denot). MatchOption c.as_ref.result (HasNone g.A.Arrival.event c.args.place w) (λ b. IsFirstItem g.A.Arrival.event c.args.place w b.now)) c.self.view_is
    (first_lent g.A.Arrival.event c.args.place _ c.as_ref.result k.x (c.as_ref.ensures.value ∙ read) k.first)
