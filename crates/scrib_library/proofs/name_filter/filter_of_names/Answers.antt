use Rattle.std.proofs.Common.{◌^◌, bit_or, ◌∙◌, ap}
use Rattle.std.proofs.lemmas.Nat.{one_shl}
use Rattle.scrib_library.proofs.NameFilterLemmas.{each_none, each_more, each_all}
use Rattle.scrib_library.proofs.name_filter.filter_of_names.Goals as goal

pub loop-name-init : goal.loop-name-init
loop-name-init c = each_none c.args.names.now _

pub loop-name-preserved : goal.loop-name-preserved
loop-name-preserved c =
    each_more c.args.names.now c.loop-name.name-index c.name-item.result c.loop-name.name_filter _ c.loop-name-test.true c.name-item.is c.loop-name.invariant
    (ap (bit_or c.loop-name.name_filter) (one_shl c.filter_bit.result 64 c.filter_bit.ensures.within ∙ ap (λ k. 2 ^ k) c.filter_bit.ensures.bit))

pub returns : goal.returns
returns c = each_all c.args.names.now c.loop-name.name-index c.loop-name.name_filter c.loop-name-test.false c.loop-name.invariant
