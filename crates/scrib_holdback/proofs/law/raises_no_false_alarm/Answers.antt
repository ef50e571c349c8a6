use Rattle.scrib_holdback.proofs.FalseAlarmLemmas.{no_false_alarm}
use Rattle.scrib_holdback.proofs.law.raises_no_false_alarm.Goals as goal

pub returns : goal.returns
returns g c = no_false_alarm g.A.Arrival.event c.args.arrivals.now c.args.released.now c.args.waiting.now c.requires
