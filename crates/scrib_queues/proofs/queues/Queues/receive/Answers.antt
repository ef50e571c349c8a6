use Rattle.std.proofs.Common.{◌≡◌, refl, Some, None, position}
use Rattle.scrib_queues.specs.Channels.{is_pair}
use Rattle.scrib_queues.proofs.QueueViews.{same_position, none_waits, none_taken, items_at, items_set, set_elsewhere}
use Rattle.scrib_queues.proofs.queues.Queues.receive.Goals as goal

pub returns-in_default-clause-taken : goal.returns-in_default-clause-taken
returns-in_default-clause-taken g c =
    let none : position (is_pair c.args.p c.args.q) c.self.inside.pairs.items ≡ None = same_position _ _ _ _ _ _ c.place_of.ensures c.deref.ensures.value c.in_default.is in
    let empty = rw c.self.view_is at (none_waits c.self.inside.roles c.args.p c.args.q c.self.inside.pairs.items c.self.inside.queues.items none) in
    (refl, none_taken _ _ empty)

pub returns-clause-taken : goal.returns-clause-taken
returns-clause-taken g c =
    let at : position (is_pair c.args.p c.args.q) c.self.inside.pairs.items ≡ Some c.in-Some.place = same_position _ _ _ _ _ _ c.place_of.ensures c.deref.ensures.value c.in-Some.is in
    let old = rw c.self.view_is at (items_at c.self.inside.roles c.args.p c.args.q c.self.inside.pairs.items c.self.inside.queues.items c.in-Some.place c.index_mut-queue.result.now at c.self.invariant c.index_mut-queue.ensures.value) in
    let new = items_set c.self.inside.roles c.args.p c.args.q c.self.inside.pairs.items c.self.inside.queues.items c.in-Some.place c.receive.new.self at c.self.invariant in
    rw (old, new) c.receive.ensures.taken

pub returns-clause-others : goal.returns-clause-others
returns-clause-others g c =
    let at : position (is_pair c.args.p c.args.q) c.self.inside.pairs.items ≡ Some c.in-Some.place = same_position _ _ _ _ _ _ c.place_of.ensures c.deref.ensures.value c.in-Some.is in
    rw (← c.self.view_is) (set_elsewhere c.self.inside.roles c.args.p c.args.q c.self.inside.pairs.items c.self.inside.queues.items c.in-Some.place c.receive.new.self at)
