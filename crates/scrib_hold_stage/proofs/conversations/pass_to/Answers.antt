use Rattle.scrib_hold_stage.proofs.MapLemmas.{written_at, value_at}
use Rattle.scrib_hold_stage.proofs.PassLemmas.{passes_of, written_same}
use Rattle.scrib_hold_stage.proofs.conversations.pass_to.Goals as goal

pub returns-clause-passed : goal.returns-clause-passed
returns-clause-passed g c = λ yes.
    (let map_was = c.args.conversations.now in
    let read = c.in-Some-get_index_mut in
    let w = written_at map_was c.in-Some.place c.args.id c.try_pass.new.self c.in-Some.ensures.found read.ensures.unique in
    passes_of g.A.Arrival.event c.args.id c.args.event.now map_was.entries _ read.conversation.now c.try_pass.new.self
    (value_at map_was.entries c.in-Some.place c.args.id read.conversation.now c.in-Some.ensures.found read.ensures.unique read.ensures.value) w.0 w.1
    (c.try_pass.ensures.passed yes))

pub returns-clause-same : goal.returns-clause-same
returns-clause-same g c = λ no_.
    written_same c.args.conversations.now.entries c.in-Some.place c.in-Some-get_index_mut.conversation.now c.try_pass.new.self c.in-Some-get_index_mut.ensures.value
    (c.try_pass.ensures.same no_)
