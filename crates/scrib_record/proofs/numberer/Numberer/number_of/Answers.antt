use Rattle.scrib_record.proofs.NumberingSteps.{inserted}
use Rattle.scrib_record.proofs.numberer.Numberer.number_of.Goals as goal

pub returns-clause-more : goal.returns-clause-more
returns-clause-more c = rw (← c.self.view_is) (inserted c.self.inside.numbered.keys c.insert_full.new.self.keys c.args.exchange c.in_ok-number.ensures.keys)
