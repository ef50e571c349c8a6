use Rattle.std.proofs.Common.{rules, of_calls}
use Rattle.std.proofs.lemmas.Fn.{always_returns_same}
use Rattle.scrib_library.specs.declared.declared.Entry.{Entry}
use Rattle.scrib_library.specs.Listed.{name_cmp}
use Rattle.scrib_library.proofs.SearchLemmas.{searched}
use Rattle.scrib_library.proofs.declared.place_of.Goals as goal

pub returns : goal.returns
returns c =
    let facts = c.binary_search_by.ensures in
    let by_name = facts.position (λ (e : Entry). name_cmp e.name c.args.name.now) (always_returns_same _ _ _ (λ a r f called. search (rules, of_calls))) in
    let s = searched (λ (e : Entry). e.name) c.args.entries.now c.args.name.now c.requires _ facts.bound by_name in
    record { found = s.0; gap = s.1 }
