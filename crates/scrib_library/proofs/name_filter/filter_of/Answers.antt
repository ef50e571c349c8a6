use Rattle.std.proofs.Common.{◌^◌, bit_or, ◌∙◌, sym, ap}
use Rattle.std.proofs.lemmas.Nat.{one_shl}
use Rattle.std.proofs.lemmas.List.{drop_all}
use Rattle.scrib_library.specs.NameFilter.{filter_from}
use Rattle.scrib_library.proofs.NameFilterLemmas.{filter_more}
use Rattle.scrib_library.proofs.name_filter.filter_of.Goals as goal

pub loop-import-preserved : goal.loop-import-preserved
loop-import-preserved c =
    filter_more c.args.imports.now c.loop-import.import-index c.import-item.result c.loop-import.name_filter _ _ c.loop-import-test.true c.import-item.is c.loop-import.invariant
    (ap (bit_or c.loop-import.name_filter) (one_shl c.filter_bit.result 64 c.filter_bit.ensures.within ∙ ap (λ k. 2 ^ k) c.filter_bit.ensures.bit))

pub returns : goal.returns
returns c =
    sym (ap (filter_from c.loop-import.name_filter) (drop_all c.loop-import.import-index c.args.imports.now c.loop-import-test.false)) ∙ c.loop-import.invariant
