use Rattle.std.proofs.Common.{None, subst}
use Rattle.scrib_types.specs.GlobalView.{global_of}
use Rattle.scrib_types.specs.Meaning.{agreement_of}
use Rattle.scrib_global.specs.Offences.{FirstOffence}
use Rattle.scrib_global.proofs.NextLemmas.{next_found}
use Rattle.scrib_global.proofs.next.next_of_roles.Goals as goal

pub returns-in_ok-all_next-in-None : goal.returns-in_ok-all_next-in-None
returns-in_ok-all_next-in-None c =
    let a = agreement_of c.args.protocol.now in
    let first : FirstOffence a c.args.log.now None = subst (FirstOffence a c.args.log.now) c.in-None.is c.in_ok-at.ensures in
    next_found a c.args.protocol.now.valid c.args.log.now first (global_of c.global.result.now) c.roles.result.now c.in_ok-all_next-in-None.field-0.items c.global.ensures.global c.roles.ensures.roles c.in_ok-all_next-in-None.ensures
