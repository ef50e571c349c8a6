use Rattle.scrib_types.proofs.FlatFormLemmas.{same_event}
use Rattle.scrib_types.proofs.shared_event.SharedEvent.equal.Goals as goal

pub returns : goal.returns
returns c = same_event _ _ _ _ _ c.same_bytes.ensures c.flat.ensures c.flat-2.ensures
