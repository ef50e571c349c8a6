use Rattle.std.proofs.lemmas.Result.{on_ok_weaker}
use Rattle.scrib_hold_stage.proofs.MapLemmas.{written_at, value_at, opened_of}
use Rattle.scrib_hold_stage.proofs.conversations.open.Goals as goal

pub returns-clause-ok : goal.returns-clause-ok
returns-clause-ok g c =
    let id = c.args.id in
    let mid = c.meet.new.conversations in
    let at = c.in_ok-place.place in
    let w = written_at mid at id c.open.new.self c.in_ok-place.ensures.place c.in-Some.ensures.unique in
    on_ok_weaker c.open.result
    (λ p. opened_of g.A.Arrival.event id c.args.conversations.now.entries mid.entries _ c.args.released.now.items c.open.new.released.items
    c.in-Some.conversation.now c.open.new.self c.in_ok-place.ensures.met
    (value_at mid.entries at id c.in-Some.conversation.now c.in_ok-place.ensures.place c.in-Some.ensures.unique c.in-Some.ensures.value) w.0 w.1 p)
    c.open.ensures.ok
