use Rattle.scrib_hold_stage.proofs.MapLemmas.{found_at}
use Rattle.scrib_hold_stage.proofs.conversations.search.Goals as goal

pub returns-clause-found : goal.returns-clause-found
returns-clause-found g c = found_at c.args.conversations.now.entries c.args.id c.get_index_of.result c.get_index_of.ensures.index
