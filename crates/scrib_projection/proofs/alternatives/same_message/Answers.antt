use Rattle.scrib_types.specs.Same.{same_message_decided}
use Rattle.scrib_projection.proofs.alternatives.same_message.Goals as goal

pub returns : goal.returns
returns c = same_message_decided _ _ _ c.equal.ensures
