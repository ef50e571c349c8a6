use Rattle.std.proofs.Common.{◌≡◌, ◌∙◌, sym, Some, None, is_ok, position}
use Rattle.scrib_queues.specs.Channels.{is_pair}
use Rattle.scrib_queues.proofs.QueueViews.{same_position, items_at, room_at, items_set, room_set, set_elsewhere, same_queues, keeps_room, queues_added, room_kept, room_made, added_fresh}
use Rattle.scrib_queues.proofs.queues.Queues.reserve.Goals as goal

pub returns-in-Some-clause-items : goal.returns-in-Some-clause-items
returns-in-Some-clause-items g c =
    let at : position (is_pair c.args.p c.args.q) c.self.inside.pairs.items ≡ Some c.in-Some.place = same_position _ _ _ _ _ _ c.place_of.ensures c.deref.ensures.value c.in-Some.is in
    let old = items_at c.self.inside.roles c.args.p c.args.q c.self.inside.pairs.items c.self.inside.queues.items c.in-Some.place c.index_mut-queue.result.now at c.self.invariant c.index_mut-queue.ensures.value in
    let new = items_set c.self.inside.roles c.args.p c.args.q c.self.inside.pairs.items c.self.inside.queues.items c.in-Some.place c.reserve.new.self at c.self.invariant in
    rw (← c.self.view_is) (same_queues c.args.p c.args.q _ _ (set_elsewhere c.self.inside.roles c.args.p c.args.q c.self.inside.pairs.items c.self.inside.queues.items c.in-Some.place c.reserve.new.self at) (new ∙ c.reserve.ensures.items ∙ sym old))

pub returns-in-Some-clause-room : goal.returns-in-Some-clause-room
returns-in-Some-clause-room g c =
    let at : position (is_pair c.args.p c.args.q) c.self.inside.pairs.items ≡ Some c.in-Some.place = same_position _ _ _ _ _ _ c.place_of.ensures c.deref.ensures.value c.in-Some.is in
    rw (room_set c.self.inside.roles c.args.p c.args.q c.self.inside.pairs.items c.self.inside.queues.items c.in-Some.place c.reserve.new.self at c.self.invariant) c.reserve.ensures.room

pub returns-in-Some-clause-kept : goal.returns-in-Some-clause-kept
returns-in-Some-clause-kept g c =
    let at : position (is_pair c.args.p c.args.q) c.self.inside.pairs.items ≡ Some c.in-Some.place = same_position _ _ _ _ _ _ c.place_of.ensures c.deref.ensures.value c.in-Some.is in
    let old = room_at c.self.inside.roles c.args.p c.args.q c.self.inside.pairs.items c.self.inside.queues.items c.in-Some.place c.index_mut-queue.result.now at c.self.invariant c.index_mut-queue.ensures.value in
    let new = room_set c.self.inside.roles c.args.p c.args.q c.self.inside.pairs.items c.self.inside.queues.items c.in-Some.place c.reserve.new.self at c.self.invariant in
    rw (← c.self.view_is) (keeps_room c.args.p c.args.q _ _ (set_elsewhere c.self.inside.roles c.args.p c.args.q c.self.inside.pairs.items c.self.inside.queues.items c.in-Some.place c.reserve.new.self at) (λ room. new ∙ c.reserve.ensures.kept (sym old ∙ room)))

pub returns-in-None-clause-items : goal.returns-in-None-clause-items
returns-in-None-clause-items g c =
    let none : position (is_pair c.args.p c.args.q) c.self.inside.pairs.items ≡ None = same_position _ _ _ _ _ _ c.place_of.ensures c.deref.ensures.value c.in-None.is in
    rw (← c.self.view_is) (queues_added _ c.self.inside.roles c.args.p c.args.q c.self.inside.pairs.items c.add_queue.new.pairs.items c.self.inside.queues.items c.add_queue.new.queues.items none c.self.invariant c.add_queue.ensures.pairs (added_fresh (is_ok c.add_queue.result) c.self.inside.queues.items _ _ c.add_queue.ensures.queues c.new.ensures))

pub returns-in-None-clause-room : goal.returns-in-None-clause-room
returns-in-None-clause-room g c =
    let none : position (is_pair c.args.p c.args.q) c.self.inside.pairs.items ≡ None = same_position _ _ _ _ _ _ c.place_of.ensures c.deref.ensures.value c.in-None.is in
    room_made c.add_queue.result c.self.inside.roles c.args.p c.args.q c.self.inside.pairs.items c.add_queue.new.pairs.items c.self.inside.queues.items c.add_queue.new.queues.items none c.self.invariant c.add_queue.ensures.pairs (added_fresh (is_ok c.add_queue.result) c.self.inside.queues.items _ _ c.add_queue.ensures.queues c.new.ensures)

pub returns-in-None-clause-kept : goal.returns-in-None-clause-kept
returns-in-None-clause-kept g c =
    let none : position (is_pair c.args.p c.args.q) c.self.inside.pairs.items ≡ None = same_position _ _ _ _ _ _ c.place_of.ensures c.deref.ensures.value c.in-None.is in
    rw (← c.self.view_is) (room_kept _ c.self.inside.roles c.args.p c.args.q c.self.inside.pairs.items c.add_queue.new.pairs.items c.self.inside.queues.items c.add_queue.new.queues.items none c.self.invariant c.add_queue.ensures.pairs (added_fresh (is_ok c.add_queue.result) c.self.inside.queues.items _ _ c.add_queue.ensures.queues c.new.ensures))
