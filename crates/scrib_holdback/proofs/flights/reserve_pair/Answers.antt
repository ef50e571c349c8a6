use Rattle.std.proofs.Common.{◌∙◌, sym, ap, position}
use Rattle.scrib_holdback.specs.Holdings.{is_between}
use Rattle.scrib_holdback.proofs.flights.reserve_pair.Goals as goal

pub returns-in-Some-clause-made : goal.returns-in-Some-clause-made
returns-in-Some-clause-made c =
    ap (position (is_between c.args.from.now c.args.to.now)) (sym c.deref.ensures.value) ∙ sym c.place_of.ensures ∙ c.in-Some.is

pub add_pair-requires-clause-missing : goal.add_pair-requires-clause-missing
add_pair-requires-clause-missing c =
    ap (position (is_between c.args.from.now c.args.to.now)) (sym c.deref.ensures.value) ∙ sym c.place_of.ensures ∙ c.in_default.is
