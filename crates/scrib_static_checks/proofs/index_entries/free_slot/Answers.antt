use Rattle.std.proofs.Common.{◌≡◌, Some, None, not, length, sym, ap, ◌∙◌, subst}
use Rattle.std.specs.List.{slice_get}
use Rattle.std.proofs.lemmas.Option.{slice_get-get_or}
use Rattle.std.proofs.Common.{get_or}
use Rattle.scrib_static_checks.specs.ProtocolIndex.{protocol_slot, next_slot}
use Rattle.scrib_static_checks.proofs.Slots.{probed_more, taken_more, some_of}
use Rattle.scrib_static_checks.proofs.index_entries.free_slot.Goals as goal

pub loop-preserved : goal.loop-preserved
loop-preserved c =
    let slots = c.args.slots.now in
    let size = length slots in
    let s = protocol_slot size c.args.home.now c.args.name.now in
    let inv = c.loop.invariant in
    let q = some_of (get_or slots c.loop.slot None) (c.is_none.ensures ∙ ap not c.if-is_none.false) in
    let there = subst (λ z. slice_get slots z ≡ Some (Some q.0)) inv.at (slice_get-get_or slots c.loop.slot None inv.within ∙ ap Some q.1) in
    record {
      within = c.next_slot-slot.ensures.within;
      at = c.next_slot-slot.ensures.slot ∙ ap (next_slot size) inv.at ∙ sym (probed_more size s c.loop.counter);
      taken = taken_more slots size s c.loop.counter q.0 there inv.taken;
    }
