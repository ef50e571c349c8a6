use Rattle.scrib_types.proofs.FlatFormLemmas.{same_message}
use Rattle.scrib_types.proofs.shared_message.SharedMessage.equal.Goals as goal

pub returns : goal.returns
returns c = same_message _ _ _ _ _ c.same_bytes.ensures c.flat.ensures c.flat-2.ensures
