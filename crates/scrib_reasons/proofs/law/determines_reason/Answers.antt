use Rattle.scrib_types.specs.Meaning.{agreement_of}
use Rattle.scrib_reasons.proofs.ReasonLemmas.{determines_reason}
use Rattle.scrib_reasons.proofs.law.determines_reason.Goals as goal

pub returns : goal.returns
returns c = determines_reason (agreement_of c.args.protocol.now) c.args.protocol.now.valid
