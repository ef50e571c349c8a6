use Rattle.scrib_types.specs.Meaning.{agreement_of}
use Rattle.scrib_global.proofs.NextLemmas.{determines_next}
use Rattle.scrib_global.proofs.next.determines_next.Goals as goal

pub returns : goal.returns
returns c = determines_next (agreement_of c.args.protocol.now) c.args.protocol.now.valid
