use Rattle.scrib_types.specs.Meaning.{agreement_of}
use Rattle.scrib_global.proofs.Draining.{can_be_received}
use Rattle.scrib_global.proofs.law.can_be_received.Goals as goal

pub returns : goal.returns
returns c = can_be_received (agreement_of c.args.protocol.now) c.args.protocol.now.valid
