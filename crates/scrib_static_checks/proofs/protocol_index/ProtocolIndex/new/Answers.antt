use Rattle.std.proofs.Common.{◌≡◌, length, sym, subst, arith}
use Rattle.std.proofs.lemmas.List.{length-map}
use Rattle.scrib_static_checks.specs.ProtocolIndex.{IsFilled}
use Rattle.scrib_static_checks.specs.Table.{declaration_of, shown}
use Rattle.scrib_static_checks.proofs.Slots.{next_declared}
use Rattle.scrib_static_checks.proofs.protocol_index.ProtocolIndex.new.Goals as goal

pub loop-place-preserved : goal.loop-place-preserved
loop-place-preserved c =
    next_declared c.args.declared.now c.next_power_of_two-size.result c.loop-place.place c.index-declared-place.result c.loop-place.slots.items c.take_slot.new.slots.items c.loop-place-test.true c.index-declared-place.is c.take_slot.ensures c.loop-place.invariant

pub returns : goal.returns
returns c = λ l.
    let ds = c.args.declared.now in
    let slots = c.loop-place.slots.items in
    let f = c.loop-place.invariant l in
    let long : length (shown ds) ≡ length ds = length-map ds declaration_of in
    let end : c.loop-place.place ≡ length (shown ds) = omega (arith, long, c.loop-place-test.false, c.loop-place.auto) in
    (subst (λ z. IsFilled (shown ds) (length slots) z slots) end (subst (λ z. IsFilled (shown ds) z c.loop-place.place slots) (sym f.long) f), sym long)
