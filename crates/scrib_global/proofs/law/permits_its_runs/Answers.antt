use Rattle.scrib_types.specs.Meaning.{agreement_of}
use Rattle.scrib_global.proofs.Runs.{simulates}
use Rattle.scrib_global.proofs.law.permits_its_runs.Goals as goal

pub returns : goal.returns
returns c = simulates (agreement_of c.args.protocol.now) c.args.protocol.now.valid
