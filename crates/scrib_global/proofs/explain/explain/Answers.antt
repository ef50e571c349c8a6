use Rattle.std.proofs.Common.{None, subst}
use Rattle.scrib_types.specs.Meaning.{agreement_of}
use Rattle.scrib_global.specs.Offences.{FirstOffence}
use Rattle.scrib_global.proofs.FlightLists.{explained}
use Rattle.scrib_global.proofs.explain.explain.Goals as goal

pub returns-in_ok-all_in_flight-in-None : goal.returns-in_ok-all_in_flight-in-None
returns-in_ok-all_in_flight-in-None c =
    let a = agreement_of c.args.protocol.now in
    let first : FirstOffence a c.args.log.now None = subst (FirstOffence a c.args.log.now) c.in-None.is c.in_ok-at.ensures in
    explained a c.args.protocol.now.valid c.args.log.now first c.in_ok-all_in_flight-in-None.field-0.items c.roles.result.now c.roles.ensures.roles c.in_ok-all_in_flight-in-None.ensures
