use Rattle.std.proofs.Common.{take}
use Rattle.scrib_library.proofs.NameFilterLemmas.{HasEach}
use Rattle.scrib_library.proofs.name_filter.filter_of_names.Given as goal

abbrev pub invariant-loop-name : goal.invariant-loop-name
invariant-loop-name l = HasEach (take l.name-index l.names) l.name_filter
