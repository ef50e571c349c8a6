use Rattle.std.proofs.lemmas.Bool.Decides.{same_from_decides}
use Rattle.scrib_record.proofs.NumberingSteps.{same_send}
use Rattle.scrib_record.proofs.exchanges.ExchangePartialEq.eq.Goals as goal

pub returns : goal.returns
returns c = same_from_decides _ _ c.equal.ensures (same_send c.args.self.now c.args.other.now)
