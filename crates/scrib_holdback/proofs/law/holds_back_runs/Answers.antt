use Rattle.std.proofs.Common.{map}
use Rattle.scrib_types.specs.Meaning.{agreement_of}
use Rattle.scrib_global.proofs.Runs.{simulates}
use Rattle.scrib_holdback.proofs.FalseAlarmLemmas.{no_false_alarm}
use Rattle.scrib_holdback.proofs.RunLemmas.{exact_over_runs}
use Rattle.scrib_holdback.proofs.law.holds_back_runs.Goals as goal

pub returns : goal.returns
returns g c =
    let event = g.A.Arrival.event in
    let arrivals = c.args.arrivals.now in
    let released = c.args.released.now in
    let waiting = c.args.waiting.now in
    let a = agreement_of c.args.protocol.now in
    let law = no_false_alarm event arrivals released waiting c.requires in
    exact_over_runs a (simulates a c.args.protocol.now.valid).exact (map event arrivals) (map event released) (map event waiting) (law.exact a)
