use Rattle.std.proofs.Common.{sym, ap, ◌∙◌}
use Rattle.scrib_reasons.specs.Tests.{reason_by_oldest, reason_by_flights}
use Rattle.scrib_reasons.proofs.find.reason_by_flights.Goals as goal

pub returns-in_ok-first-in-Received : goal.returns-in_ok-first-in-Received
returns-in_ok-first-in-Received c =
    c.reason_by_oldest.ensures ∙ ap (reason_by_oldest c.in-Received.message) c.in_ok-first-in-Received.ensures ∙ sym (ap (reason_by_flights c.args.log.now) c.in-Received.is)
