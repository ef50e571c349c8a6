use Rattle.std.proofs.Common.{◌≡◌, ◌∙◌, sym, Some, None, position}
use Rattle.scrib_queues.specs.Channels.{is_pair}
use Rattle.scrib_queues.proofs.QueueViews.{same_position, none_waits, items_at, items_set, room_set, set_elsewhere, keeps_room, room_at}
use Rattle.scrib_queues.proofs.queues.Queues.pop.Goals as goal

pub returns-in_err-place-clause-popped : goal.returns-in_err-place-clause-popped
returns-in_err-place-clause-popped g c =
    let none : position (is_pair c.args.p c.args.q) c.self.inside.pairs.items ≡ None = same_position _ _ _ _ _ _ c.place_of.ensures c.deref.ensures.value c.in_err-place.was in
    let empty = rw c.self.view_is at (none_waits c.self.inside.roles c.args.p c.args.q c.self.inside.pairs.items c.self.inside.queues.items none) in
    rw c.from_residual.ensures (empty, empty)

pub returns-clause-popped : goal.returns-clause-popped
returns-clause-popped g c =
    let at : position (is_pair c.args.p c.args.q) c.self.inside.pairs.items ≡ Some c.in_ok-place.place = same_position _ _ _ _ _ _ c.place_of.ensures c.deref.ensures.value c.in_ok-place.was in
    let old = rw c.self.view_is at (items_at c.self.inside.roles c.args.p c.args.q c.self.inside.pairs.items c.self.inside.queues.items c.in_ok-place.place c.index_mut-queue.result.now at c.self.invariant c.index_mut-queue.ensures.value) in
    let new = items_set c.self.inside.roles c.args.p c.args.q c.self.inside.pairs.items c.self.inside.queues.items c.in_ok-place.place c.pop.new.self at c.self.invariant in
    rw (old, new) c.pop.ensures.items

pub returns-clause-others : goal.returns-clause-others
returns-clause-others g c =
    let at : position (is_pair c.args.p c.args.q) c.self.inside.pairs.items ≡ Some c.in_ok-place.place = same_position _ _ _ _ _ _ c.place_of.ensures c.deref.ensures.value c.in_ok-place.was in
    rw (← c.self.view_is) (set_elsewhere c.self.inside.roles c.args.p c.args.q c.self.inside.pairs.items c.self.inside.queues.items c.in_ok-place.place c.pop.new.self at)

pub returns-clause-room : goal.returns-clause-room
returns-clause-room g c =
    let at : position (is_pair c.args.p c.args.q) c.self.inside.pairs.items ≡ Some c.in_ok-place.place = same_position _ _ _ _ _ _ c.place_of.ensures c.deref.ensures.value c.in_ok-place.was in
    rw (room_set c.self.inside.roles c.args.p c.args.q c.self.inside.pairs.items c.self.inside.queues.items c.in_ok-place.place c.pop.new.self at c.self.invariant) c.pop.ensures.room

pub returns-clause-kept : goal.returns-clause-kept
returns-clause-kept g c =
    let at : position (is_pair c.args.p c.args.q) c.self.inside.pairs.items ≡ Some c.in_ok-place.place = same_position _ _ _ _ _ _ c.place_of.ensures c.deref.ensures.value c.in_ok-place.was in
    let others = set_elsewhere c.self.inside.roles c.args.p c.args.q c.self.inside.pairs.items c.self.inside.queues.items c.in_ok-place.place c.pop.new.self at in
    let old = room_at c.self.inside.roles c.args.p c.args.q c.self.inside.pairs.items c.self.inside.queues.items c.in_ok-place.place c.index_mut-queue.result.now at c.self.invariant c.index_mut-queue.ensures.value in
    let new = room_set c.self.inside.roles c.args.p c.args.q c.self.inside.pairs.items c.self.inside.queues.items c.in_ok-place.place c.pop.new.self at c.self.invariant in
    rw (← c.self.view_is) (keeps_room c.args.p c.args.q _ _ others (λ room. new ∙ c.pop.ensures.kept (sym old ∙ room)))
