use Rattle.std.proofs.Common.{◌≡◌, ◌+◌, ◌<◌, Some, length, get_or, set, sym, subst, ◌∙◌, arith}
use Rattle.std.proofs.lemmas.List.{length-set}
use Rattle.std.proofs.lemmas.Option.{slice_get-get_or}
use Rattle.scrib_type_builder.specs.Operators.{operator_slot, AreChained}
use Rattle.scrib_static_checks.proofs.Slots.{read_at}
use Rattle.scrib_type_builder.proofs.OperatorIndexLemmas.{next_chained}
use Rattle.scrib_type_builder.proofs.operators.Operators.add_new.Goals as goal

pub loop-place-preserved : goal.loop-place-preserved
loop-place-preserved c =
    let inv = c.loop-place.invariant in
    let latest = c.loop-place.self.latest.items in
    let earlier = c.loop-place.self.earlier.items in
    let bs = c.args.branches.now in
    let place = c.loop-place.place in
    let b = get_or bs place c.index-branches-place.result in
    let slot = c.operator_slot-slot.result in
    let o = c.index-earlier.result.now in
    let within : slot < length latest = omega (arith, c.operator_slot-slot.ensures.within, inv.long) in
    let here = slice_get-get_or bs place c.index-branches-place.result c.loop-place-test.true in
    let there = read_at latest slot o within c.index-earlier.ensures in
    let at : slot ≡ operator_slot (length latest) b.0.op = c.operator_slot-slot.ensures.slot ∙ (λ i. operator_slot (sym inv.long i) (c.get.ensures i).op) in
    record {
      long = length-set latest slot (Some place) ∙ inv.long;
      some = inv.some;
      chained = subst (λ es. AreChained bs (place + 1) (set latest slot (Some place)) es) (sym c.in_ok-push.ensures.items) (next_chained bs place slot b o latest earlier here at there inv.chained);
    }
