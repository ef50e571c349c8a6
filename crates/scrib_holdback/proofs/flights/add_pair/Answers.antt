use Rattle.std.proofs.Common.{◌∙◌, sym, refl, subst}
use Rattle.scrib_holdback.specs.Releases.{SameCounts}
use Rattle.scrib_holdback.proofs.FlightLemmas.{added_same, added_keeps, added_at}
use Rattle.scrib_holdback.proofs.flights.add_pair.Goals as goal

pub returns-clause-same : goal.returns-clause-same
returns-clause-same c =
    subst (SameCounts c.args.flights.now.items) (sym c.in_ok-push.ensures.items)
    (added_same c.args.flights.now.items _ refl refl)

pub returns-clause-kept : goal.returns-clause-kept
returns-clause-kept c =
    added_keeps c.args.from.now c.args.to.now c.args.flights.now.items c.push.new.self.items _ c.in_ok-push.ensures.items c.in_ok-from.ensures c.in_ok-to.ensures c.requires.missing

pub returns-clause-made : goal.returns-clause-made
returns-clause-made c =
    added_at c.args.from.now c.args.to.now c.args.flights.now.items c.push.new.self.items _ c.len-place.result c.in_ok-push.ensures.items c.in_ok-from.ensures c.in_ok-to.ensures c.requires.missing
    c.requires.distinct (c.len-place.ensures ∙ c.args.flights.now.ok.0)
