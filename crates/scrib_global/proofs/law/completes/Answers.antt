use Rattle.scrib_types.specs.Meaning.{agreement_of}
use Rattle.scrib_global.proofs.Completion.{completes}
use Rattle.scrib_global.proofs.law.completes.Goals as goal

pub returns : goal.returns
returns c = completes (agreement_of c.args.protocol.now) c.args.protocol.now.valid
