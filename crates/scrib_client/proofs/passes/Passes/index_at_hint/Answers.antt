use Rattle.scrib_client.proofs.IndexLemmas.{index_read, index_found}
use Rattle.scrib_client.proofs.passes.Passes.index_at_hint.Goals as goal

pub returns-in-Some-clause-found : goal.returns-in-Some-clause-found
returns-in-Some-clause-found c = index_read c.args.self.now.by_id.entries c.index-hint.result c.in-Some.key.now c.args.id _ c.in-Some.ensures.entry c.if-key-id.true

pub returns-in_default-clause-found : goal.returns-in_default-clause-found
returns-in_default-clause-found c = index_found _ c.args.id c.get_index_of.result c.get_index_of.ensures.index
