use Rattle.std.proofs.Common.{◌≡◌, ◌<◌, true, length, get_or, rules, sym, ap, ◌∙◌, subst, arith}
use Rattle.std.proofs.lemmas.Option.{slice_get-get_or}
use Rattle.scrib_types.specs.declared.message.Message.{Message}
use Rattle.scrib_types.specs.WellFormed.{same_operator}
use Rattle.scrib_type_builder.specs.Operators.{operator_slot}
use Rattle.scrib_static_checks.proofs.Slots.{read_at}
use Rattle.scrib_type_builder.proofs.OperatorIndexLemmas.{IsPassed, place_of, has_one, next_within, walk_begins, walk_goes, walk_shrinks, walk_ends}
use Rattle.scrib_type_builder.proofs.operators.Operators.has.Goals as goal

pub loop-next-init : goal.loop-next-init
loop-next-init c =
    let latest = c.args.self.now.latest.items in
    let slot = c.operator_slot-slot.result in
    let long : c.len-size.result ≡ length latest = search rules in
    let within : slot < length latest = omega (arith, c.operator_slot-slot.ensures.within, long) in
    walk_begins c.args.branches.now c.args.op.now slot c.index-next.result.now latest c.args.self.now.earlier.items (c.requires (omega (arith, within))) (c.operator_slot-slot.ensures.slot ∙ ap (λ z. operator_slot z c.args.op.now) long)
    (read_at latest slot c.index-next.result.now within c.index-next.ensures)

pub offset_bounds-branches-place : goal.offset_bounds-branches-place
offset_bounds-branches-place c =
    let bs = c.args.branches.now in
    let size = length c.args.self.now.latest.items in
    let within : c.in-Some.place < length bs = next_within bs size c.in-Some.place c.args.op.now (subst (IsPassed bs size c.args.op.now) c.in-Some.is c.loop-next.invariant) in
    search rules

pub bounds-branches-place : goal.bounds-branches-place
bounds-branches-place c =
    let bs = c.args.branches.now in
    let size = length c.args.self.now.latest.items in
    next_within bs size c.in-Some.place c.args.op.now (subst (IsPassed bs size c.args.op.now) c.in-Some.is c.loop-next.invariant)

pub returns-then-operators_equal : goal.returns-then-operators_equal
returns-then-operators_equal c =
    let bs = c.args.branches.now in
    let op = c.args.op.now in
    let size = length c.args.self.now.latest.items in
    let b = get_or bs c.in-Some.place c.index-branches-place.result in
    let within = next_within bs size c.in-Some.place op (subst (IsPassed bs size op) c.in-Some.is c.loop-next.invariant) in
    let here = slice_get-get_or bs c.in-Some.place c.index-branches-place.result within in
    let same : same_operator op b.0.op ≡ true = sym (c.operators_equal.ensures.test ∙ ap (λ (m : Message). same_operator op m.op) c.get.ensures) ∙ c.if-operators_equal.true in
    sym (has_one op bs c.in-Some.place b here same)

pub index-earlier-requires : goal.index-earlier-requires
index-earlier-requires c =
    let bs = c.args.branches.now in
    let size = length c.args.self.now.latest.items in
    let within = next_within bs size c.in-Some.place c.args.op.now (subst (IsPassed bs size c.args.op.now) c.in-Some.is c.loop-next.invariant) in
    let long : c.len-size.result ≡ size = search rules in
    let count = (c.requires (omega (arith, long, c.operator_slot-slot.ensures.within))).counted in
    omega (arith, within, count)

pub loop-next-preserved : goal.loop-next-preserved
loop-next-preserved c =
    let bs = c.args.branches.now in
    let op = c.args.op.now in
    let latest = c.args.self.now.latest.items in
    let earlier = c.args.self.now.earlier.items in
    let size = length latest in
    let place = c.in-Some.place in
    let b = get_or bs place c.index-branches-place.result in
    let o = c.index-earlier.result.now in
    let passed = subst (IsPassed bs size op) c.in-Some.is c.loop-next.invariant in
    let within = next_within bs size place op passed in
    let long : c.len-size.result ≡ size = search rules in
    let chained = c.requires (omega (arith, long, c.operator_slot-slot.ensures.within)) in
    let low : place < length earlier = omega (arith, within, chained.counted) in
    let here = slice_get-get_or bs place c.index-branches-place.result within in
    let there = read_at earlier place o low c.index-earlier.ensures in
    let other = sym (c.operators_equal.ensures.test ∙ ap (λ (m : Message). same_operator op m.op) c.get.ensures) ∙ c.if-operators_equal.false in
    walk_goes bs place b op o latest earlier chained here there other passed

pub loop-next-smaller : goal.loop-next-smaller
loop-next-smaller c =
    let bs = c.args.branches.now in
    let op = c.args.op.now in
    let latest = c.args.self.now.latest.items in
    let earlier = c.args.self.now.earlier.items in
    let size = length latest in
    let place = c.in-Some.place in
    let b = get_or bs place c.index-branches-place.result in
    let o = c.index-earlier.result.now in
    let passed = subst (IsPassed bs size op) c.in-Some.is c.loop-next.invariant in
    let within = next_within bs size place op passed in
    let long : c.len-size.result ≡ size = search rules in
    let chained = c.requires (omega (arith, long, c.operator_slot-slot.ensures.within)) in
    let low : place < length earlier = omega (arith, within, chained.counted) in
    let here = slice_get-get_or bs place c.index-branches-place.result within in
    let there = read_at earlier place o low c.index-earlier.ensures in
    subst (λ z. place_of o < place_of z) (sym c.in-Some.is) (walk_shrinks bs place b o latest earlier chained here there)

pub returns : goal.returns
returns c =
    let bs = c.args.branches.now in
    let size = length c.args.self.now.latest.items in
    sym (walk_ends bs size c.args.op.now (subst (IsPassed bs size c.args.op.now) c.in_default.is c.loop-next.invariant))
