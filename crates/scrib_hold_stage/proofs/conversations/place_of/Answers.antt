use Rattle.scrib_hold_stage.proofs.MapLemmas.{read_at}
use Rattle.scrib_hold_stage.proofs.conversations.place_of.Goals as goal

pub returns-in-Some-get_index-clause-found : goal.returns-in-Some-get_index-clause-found
returns-in-Some-get_index-clause-found g c =
    read_at c.args.conversations.now.entries c.match-get_index.usual c.in-Some-get_index.key.now c.args.id _ c.in-Some-get_index.ensures.entry c.if-key-id.true
