use Rattle.std.proofs.Common.{◌≡◌, ◌∙◌, ap, subst, slice_get, false, Some}
use Rattle.scrib_types.specs.WellFormed.{has_role}
use Rattle.scrib_holdback.specs.Lanes.{lane_roles}
use Rattle.scrib_holdback.specs.Waiters.{Waiters}
use Rattle.scrib_holdback.proofs.WaitingLemmas.{laid_added, role_added}
use Rattle.scrib_holdback.proofs.waiting.Waiting.add_role.Goals as goal

pub returns-in-Some-clause-place : goal.returns-in-Some-clause-place
returns-in-Some-clause-place g c =
    subst (λ (w : Waiters g.row.A.Denot). slice_get w.roles c.in-Some.place ≡ Some c.args.role.now) c.self.view_is
    (subst (λ z. slice_get (lane_roles z) c.in-Some.place ≡ Some c.args.role.now) c.deref.ensures.value c.in-Some.ensures)

pub invariant_of-self-2 : goal.invariant_of-self-2
invariant_of-self-2 g c =
    let none : has_role c.args.role.now (lane_roles c.self.inside.lanes.items) ≡ false =
    subst (λ z. has_role c.args.role.now (lane_roles z) ≡ false) c.deref.ensures.value c.in_default.ensures in
    let missing : has_role c.in_ok-role.role (lane_roles c.self.inside.lanes.items) ≡ false =
    ap (λ r. has_role r (lane_roles c.self.inside.lanes.items)) c.in_ok-role.ensures ∙ none in
    laid_added g.A.Arrival.event c.self.inside.lanes.items c.push.new.self.items _ c.self.inside.slots.items c.self.inside.pushed c.self.invariant
    missing c.new-positions.ensures.items c.in_ok-push.ensures.items

pub returns-clause-place : goal.returns-clause-place
returns-clause-place g c =
    role_added c.self.inside.lanes.items c.push.new.self.items _ c.args.role.now c.len-place.result c.in_ok-push.ensures.items
    c.in_ok-role.ensures (c.len-place.ensures ∙ c.self.inside.lanes.ok.0)
