use Rattle.scrib_holdback.proofs.FlightLemmas.{send_missing}
use Rattle.scrib_holdback.proofs.flights.count_first.Goals as goal

pub add_pair-requires-clause-missing : goal.add_pair-requires-clause-missing
add_pair-requires-clause-missing c =
    send_missing c.args.event.now c.in-Sent.from c.in-Sent.to c.in-Sent.message c.args.flights.now.items c.in-Sent.is c.requires.missing
