use Rattle.std.proofs.Common.{◌≡◌, IsTrue, IsFalse, Some, sym, subst}
use Rattle.std.proofs.lemmas.Result.{IfOk-weaker}
use Rattle.scrib_hold_stage.specs.Conversations.{IsExpiredIn, IsNotOldest}
use Rattle.scrib_hold_stage.proofs.MapLemmas.{written_at, value_at, expired_of, rewritten}
use Rattle.scrib_hold_stage.proofs.conversations.release_at.Goals as goal

pub returns-clause-expired : goal.returns-clause-expired
returns-clause-expired g c =
    let id = c.args.id in
    let map_was = c.args.conversations.now in
    let read = c.in-Some-get_index_mut in
    let w = written_at map_was c.in-Some.place id c.release_at.new.self c.in-Some.ensures.found read.ensures.unique in
    IfOk-weaker c.release_at.result
    (λ some. IsTrue some → IsExpiredIn g.A.Arrival.event c.args.time (Some read.conversation.now) (Some c.release_at.new.self) c.args.released.now.items c.release_at.new.released.items) _
    (λ some f y. expired_of g.A.Arrival.event id c.args.time map_was.entries _ c.args.released.now.items c.release_at.new.released.items read.conversation.now c.release_at.new.self
    (value_at map_was.entries c.in-Some.place id read.conversation.now c.in-Some.ensures.found read.ensures.unique read.ensures.value) w.0 w.1 (f y))
    c.release_at.ensures.expired

pub returns-clause-none : goal.returns-clause-none
returns-clause-none g c =
    let read = c.in-Some-get_index_mut in
    IfOk-weaker c.release_at.result
    (λ some. IsFalse some → IsNotOldest c.args.time (Some read.conversation.now)) _
    (λ some f y. subst (λ z. IsNotOldest c.args.time z)
    (sym (value_at c.args.conversations.now.entries c.in-Some.place c.args.id read.conversation.now c.in-Some.ensures.found read.ensures.unique read.ensures.value)) (f y))
    c.release_at.ensures.none

pub returns-clause-unchanged : goal.returns-clause-unchanged
returns-clause-unchanged g c =
    let id = c.args.id in
    let map_was = c.args.conversations.now in
    let read = c.in-Some-get_index_mut in
    let w = written_at map_was c.in-Some.place id c.release_at.new.self c.in-Some.ensures.found read.ensures.unique in
    IfOk-weaker c.release_at.result
    (λ some. IsFalse some → c.release_at.new.self ≡ read.conversation.now) _
    (λ some f y. rewritten map_was.entries _ id read.conversation.now c.release_at.new.self
    (value_at map_was.entries c.in-Some.place id read.conversation.now c.in-Some.ensures.found read.ensures.unique read.ensures.value) w.0 w.1 (f y))
    c.release_at.ensures.unchanged
