-- What is kept beside each module.
-- Only contracts of private functions and the invariant of `ModuleStore` cite this file.
use Rattle.std.specs.Prelude.{ℕ, List, length, map}
use Rattle.std.specs.List.{sum_by}
use Rattle.scrib_tree.specs.declared.tree.ModuleTree.{ModuleTree}
use Rattle.scrib_library.specs.declared.summaries.ModuleSummary.{ModuleSummary}
use Rattle.scrib_library.specs.NameFilter.{filter_bit, filter_of}

-- the summary of a module: the filter bit of its name, the filter of its imports, and the number of its protocols
abbrev pub summary : ModuleTree → ModuleSummary
summary m = record { bit = filter_bit m.name; name_filter = filter_of m.imports; protocols = length m.protocols }

-- the summaries of the modules, in the same order
abbrev pub summaries_of : List ModuleTree → List ModuleSummary
summaries_of ms = map summary ms

-- how many protocols the summarised modules declare
abbrev pub declared_count : List ModuleSummary → ℕ
declared_count os = sum_by (λ (o : ModuleSummary). o.protocols) os
