use Rattle.std.proofs.Common.{◌≡◌, drop}
use Rattle.scrib_library.specs.NameFilter.{filter_from, filter_of}
use Rattle.scrib_library.proofs.name_filter.filter_of.Given as goal

abbrev pub invariant-loop-import : goal.invariant-loop-import
invariant-loop-import l = filter_from l.name_filter (drop l.import-index l.imports) ≡ filter_of l.imports
