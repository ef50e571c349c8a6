use Rattle.scrib_types.specs.Meaning.{agreement_of}
use Rattle.scrib_global.proofs.Progress.{progresses}
use Rattle.scrib_global.proofs.law.progresses.Goals as goal

pub returns : goal.returns
returns c = progresses (agreement_of c.args.protocol.now) c.args.protocol.now.valid
