use Rattle.scrib_global.specs.Explained.{in_flight}
use Rattle.scrib_global.proofs.FlightLists.{flat_more}
use Rattle.scrib_global.proofs.explain.push_from.Goals as goal

pub loop-to-preserved : goal.loop-to-preserved
loop-to-preserved c =
    flat_more (λ q. in_flight c.args.from.now q c.args.log.now) c.args.flights.now.items c.loop-to.flights.items c.push_between.new.flights.items c.args.roles.now c.loop-to.to-index c.to-item.result c.loop-to-test.true c.to-item.is c.loop-to.invariant c.in_ok-push_between.ensures
