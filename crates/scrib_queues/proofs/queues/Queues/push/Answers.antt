use Rattle.std.proofs.Common.{◌≡◌, ◌∙◌, sym, Some, None, position}
use Rattle.scrib_queues.specs.Channels.{is_pair}
use Rattle.scrib_queues.proofs.QueueViews.{same_position, true_is_false, no_room, items_at, room_at, items_set, set_elsewhere}
use Rattle.scrib_queues.proofs.queues.Queues.push.Goals as goal

pub unreachable-requires : goal.unreachable-requires
unreachable-requires g c =
    let none : position (is_pair c.args.p c.args.q) c.self.inside.pairs.items ≡ None = same_position _ _ _ _ _ _ c.place_of.ensures c.deref.ensures.value c.in_default.is in
    let shut = rw c.self.view_is at (no_room c.self.inside.roles c.args.p c.args.q c.self.inside.pairs.items c.self.inside.queues.items none) in
    true_is_false (sym c.requires.room ∙ shut)

pub push-requires : goal.push-requires
push-requires g c =
    let at : position (is_pair c.args.p c.args.q) c.self.inside.pairs.items ≡ Some c.in-Some.place = same_position _ _ _ _ _ _ c.place_of.ensures c.deref.ensures.value c.in-Some.is in
    let room = rw c.self.view_is at (room_at c.self.inside.roles c.args.p c.args.q c.self.inside.pairs.items c.self.inside.queues.items c.in-Some.place c.index_mut-queue.result.now at c.self.invariant c.index_mut-queue.ensures.value) in
    sym room ∙ c.requires.room

pub returns-clause-pushed : goal.returns-clause-pushed
returns-clause-pushed g c =
    let at : position (is_pair c.args.p c.args.q) c.self.inside.pairs.items ≡ Some c.in-Some.place = same_position _ _ _ _ _ _ c.place_of.ensures c.deref.ensures.value c.in-Some.is in
    let old = rw c.self.view_is at (items_at c.self.inside.roles c.args.p c.args.q c.self.inside.pairs.items c.self.inside.queues.items c.in-Some.place c.index_mut-queue.result.now at c.self.invariant c.index_mut-queue.ensures.value) in
    let new = items_set c.self.inside.roles c.args.p c.args.q c.self.inside.pairs.items c.self.inside.queues.items c.in-Some.place c.push.new.self at c.self.invariant in
    rw (new, old) c.push.ensures

pub returns-clause-others : goal.returns-clause-others
returns-clause-others g c =
    let at : position (is_pair c.args.p c.args.q) c.self.inside.pairs.items ≡ Some c.in-Some.place = same_position _ _ _ _ _ _ c.place_of.ensures c.deref.ensures.value c.in-Some.is in
    rw (← c.self.view_is) (set_elsewhere c.self.inside.roles c.args.p c.args.q c.self.inside.pairs.items c.self.inside.queues.items c.in-Some.place c.push.new.self at)
