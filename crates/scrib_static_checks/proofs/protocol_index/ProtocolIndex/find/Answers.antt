use Rattle.std.proofs.Common.{◌≡◌, ℕ, ◌<◌, Option, Some, None, length, rules, refl, sym, ap, ◌∙◌, subst, arith}
use Rattle.std.specs.List.{slice_get}
use Rattle.std.specs.Option.{MatchOption}
use Rattle.scrib_static_checks.specs.Names.{first_where, is_called}
use Rattle.scrib_static_checks.specs.ProtocolIndex.{protocol_slot, next_slot}
use Rattle.scrib_static_checks.specs.Table.{shown, IsFound}
use Rattle.scrib_static_checks.proofs.Slots.{probed_more, passed_more, found_by_probing, absent_by_probing, read_at}
use Rattle.scrib_static_checks.proofs.protocol_index.ProtocolIndex.find.Goals as goal

pub returns-in_err-place : goal.returns-in_err-place
returns-in_err-place c =
    let slots = c.args.self.now.slots.items in
    let size = length slots in
    let ds = shown c.args.declared.now in
    let home = c.args.home.now in
    let name = c.args.name.now in
    let s = protocol_slot size home name in
    let inv = c.loop.invariant in
    let some : 0 < size = omega (arith, inv.within) in
    let here = read_at slots c.loop.slot c.index.result.now inv.within c.index.ensures ∙ ap Some c.in_err-place.was in
    let free = subst (λ (z : ℕ). slice_get slots z ≡ Some None) inv.at here in
    let absent = absent_by_probing ds slots size s home name c.loop.counter (c.requires some) refl inv.passed free in
    subst (λ (r : Option ℕ). MatchOption r (first_where (is_called home name) ds ≡ None) (IsFound ds (is_called home name))) (sym c.from_residual.ensures) absent

pub returns-then-is_named : goal.returns-then-is_named
returns-then-is_named c =
    let slots = c.args.self.now.slots.items in
    let size = length slots in
    let ds = shown c.args.declared.now in
    let home = c.args.home.now in
    let name = c.args.name.now in
    let s = protocol_slot size home name in
    let inv = c.loop.invariant in
    let place = c.in_ok-place.field-0 in
    let some : 0 < size = omega (arith, inv.within) in
    let here = read_at slots c.loop.slot c.index.result.now inv.within c.index.ensures ∙ ap Some c.in_ok-place.was in
    let there = subst (λ (z : ℕ). slice_get slots z ≡ Some (Some place)) inv.at here in
    found_by_probing ds slots size s home name c.loop.counter place (c.requires some) refl inv.passed there (c.is_named.ensures.named c.if-is_named.true)

pub loop-preserved : goal.loop-preserved
loop-preserved c =
    let slots = c.args.self.now.slots.items in
    let size = length slots in
    let ds = shown c.args.declared.now in
    let home = c.args.home.now in
    let name = c.args.name.now in
    let s = protocol_slot size home name in
    let inv = c.loop.invariant in
    let place = c.in_ok-place.field-0 in
    let long : c.len-size.result ≡ size = search rules in
    let here = read_at slots c.loop.slot c.index.result.now inv.within c.index.ensures ∙ ap Some c.in_ok-place.was in
    let there = subst (λ (z : ℕ). slice_get slots z ≡ Some (Some place)) inv.at here in
    record {
      within = subst (λ (z : ℕ). c.next_slot-slot.result < z) long c.next_slot-slot.ensures.within;
      at = c.next_slot-slot.ensures.slot ∙ (λ i. next_slot (long i) (inv.at i)) ∙ sym (probed_more size s c.loop.counter);
      passed = passed_more ds slots size s home name c.loop.counter place there (λ d e. sym (c.is_named.ensures.others d e) ∙ c.if-is_named.false) inv.passed;
    }
