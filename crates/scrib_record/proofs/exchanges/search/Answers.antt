use Rattle.std.proofs.Common.{◌∙◌, ap, arith}
use Rattle.std.proofs.lemmas.Option.{get_or_from_slice_get, slice_get_within}
use Rattle.scrib_types.specs.FlatEvents.{exchange_bytes}
use Rattle.scrib_record.specs.declared.exchanges.Exchange.{Exchange}
use Rattle.scrib_record.proofs.exchanges.search.Goals as goal

pub returns-clause-absent : goal.returns-clause-absent
returns-clause-absent c e k h =
    let x = h.exchange in
    let list = c.args.list.now in
    c.loop-number.invariant k x (omega (arith, slice_get_within list k x h.here)) (ap (λ (y : Exchange). exchange_bytes y.send) (get_or_from_slice_get list k x x h.here) ∙ h.same)
