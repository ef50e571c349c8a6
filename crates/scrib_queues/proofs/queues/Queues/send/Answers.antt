use Rattle.std.proofs.Common.{◌≡◌, Some, None, position}
use Rattle.scrib_queues.specs.Channels.{is_pair}
use Rattle.scrib_queues.proofs.QueueViews.{same_position, items_at, items_set, set_elsewhere, on_ok, sent_there, stay_there, sent_added, others_added}
use Rattle.scrib_queues.proofs.queues.Queues.send.Goals as goal

pub returns-in-Some-clause-sent : goal.returns-in-Some-clause-sent
returns-in-Some-clause-sent g c =
    let at : position (is_pair c.args.p c.args.q) c.self.inside.pairs.items ≡ Some c.in-Some.place = same_position _ _ _ _ _ _ c.place_of.ensures c.deref.ensures.value c.in-Some.is in
    let old = rw c.self.view_is at (items_at c.self.inside.roles c.args.p c.args.q c.self.inside.pairs.items c.self.inside.queues.items c.in-Some.place c.index_mut-queue.result.now at c.self.invariant c.index_mut-queue.ensures.value) in
    let new = items_set c.self.inside.roles c.args.p c.args.q c.self.inside.pairs.items c.self.inside.queues.items c.in-Some.place c.send.new.self at c.self.invariant in
    sent_there c.send.result _ _ _ (rw (old, new) c.send.ensures)

pub returns-in-Some-clause-others : goal.returns-in-Some-clause-others
returns-in-Some-clause-others g c =
    let at : position (is_pair c.args.p c.args.q) c.self.inside.pairs.items ≡ Some c.in-Some.place = same_position _ _ _ _ _ _ c.place_of.ensures c.deref.ensures.value c.in-Some.is in
    on_ok c.send.result _ (rw (← c.self.view_is) (set_elsewhere c.self.inside.roles c.args.p c.args.q c.self.inside.pairs.items c.self.inside.queues.items c.in-Some.place c.send.new.self at))

pub returns-in-Some-clause-err : goal.returns-in-Some-clause-err
returns-in-Some-clause-err g c =
    let at : position (is_pair c.args.p c.args.q) c.self.inside.pairs.items ≡ Some c.in-Some.place = same_position _ _ _ _ _ _ c.place_of.ensures c.deref.ensures.value c.in-Some.is in
    let old = items_at c.self.inside.roles c.args.p c.args.q c.self.inside.pairs.items c.self.inside.queues.items c.in-Some.place c.index_mut-queue.result.now at c.self.invariant c.index_mut-queue.ensures.value in
    let new = items_set c.self.inside.roles c.args.p c.args.q c.self.inside.pairs.items c.self.inside.queues.items c.in-Some.place c.send.new.self at c.self.invariant in
    let others = set_elsewhere c.self.inside.roles c.args.p c.args.q c.self.inside.pairs.items c.self.inside.queues.items c.in-Some.place c.send.new.self at in
    rw (← c.self.view_is) (stay_there c.send.result c.args.p c.args.q _ _ c.args.item others (rw (old, new) c.send.ensures))

pub returns-in-None-clause-sent : goal.returns-in-None-clause-sent
returns-in-None-clause-sent g c =
    let none : position (is_pair c.args.p c.args.q) c.self.inside.pairs.items ≡ None = same_position _ _ _ _ _ _ c.place_of.ensures c.deref.ensures.value c.in-None.is in
    rw (← c.self.view_is) (sent_added c.add_queue.result c.self.inside.roles c.args.p c.args.q c.self.inside.pairs.items c.add_queue.new.pairs.items c.self.inside.queues.items c.add_queue.new.queues.items c.of-queue.result c.args.item none c.self.invariant c.add_queue.ensures.pairs c.add_queue.ensures.queues c.of-queue.ensures)

pub returns-in-None-clause-others : goal.returns-in-None-clause-others
returns-in-None-clause-others g c =
    rw (← c.self.view_is) (others_added c.add_queue.result c.self.inside.roles c.args.p c.args.q c.self.inside.pairs.items c.add_queue.new.pairs.items c.self.inside.queues.items c.add_queue.new.queues.items c.of-queue.result c.self.invariant c.add_queue.ensures.pairs c.add_queue.ensures.queues)
