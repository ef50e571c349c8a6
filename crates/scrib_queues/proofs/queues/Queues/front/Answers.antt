use Rattle.std.proofs.Common.{◌≡◌, Some, None, position}
use Rattle.scrib_queues.specs.Channels.{is_pair}
use Rattle.scrib_queues.proofs.QueueViews.{same_position, none_waits, items_at}
use Rattle.scrib_queues.proofs.queues.Queues.front.Goals as goal

pub returns-in_err-place : goal.returns-in_err-place
returns-in_err-place g c =
    let none : position (is_pair c.args.p c.args.q) c.self.inside.pairs.items ≡ None = same_position _ _ _ _ _ _ c.place_of.ensures c.deref.ensures.value c.in_err-place.was in
    rw c.from_residual.ensures (rw c.self.view_is at (none_waits c.self.inside.roles c.args.p c.args.q c.self.inside.pairs.items c.self.inside.queues.items none))

pub returns : goal.returns
returns g c =
    let at : position (is_pair c.args.p c.args.q) c.self.inside.pairs.items ≡ Some c.in_ok-place.place = same_position _ _ _ _ _ _ c.place_of.ensures c.deref.ensures.value c.in_ok-place.was in
    let held = rw c.self.view_is at (items_at c.self.inside.roles c.args.p c.args.q c.self.inside.pairs.items c.self.inside.queues.items c.in_ok-place.place c.index-queue.result.now at c.self.invariant c.index-queue.ensures) in
    rw held c.front.ensures
