use Rattle.scrib_core.proofs.PlaceLemmas.{is_record_read, found_in_records}
use Rattle.scrib_core.proofs.places.place_at_hint.Goals as goal

pub returns-in-Some-clause-found : goal.returns-in-Some-clause-found
returns-in-Some-clause-found c = is_record_read c.args.records.now.entries c.args.hint c.in-Some.key.now c.args.id _ c.in-Some.ensures.entry c.if-key-id.true

pub returns-in_default-clause-found : goal.returns-in_default-clause-found
returns-in_default-clause-found c = found_in_records c.args.records.now.entries c.args.id c.get_index_of.result c.get_index_of.ensures.index
