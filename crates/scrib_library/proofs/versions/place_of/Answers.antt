use Rattle.std.proofs.Common.{rules, of_calls}
use Rattle.std.proofs.lemmas.Fn.{always_returns_same}
use Rattle.scrib_library.specs.declared.versions.NamedVersion.{NamedVersion}
use Rattle.scrib_library.specs.Listed.{name_cmp}
use Rattle.scrib_library.proofs.SearchLemmas.{searched}
use Rattle.scrib_library.proofs.versions.place_of.Goals as goal

pub returns : goal.returns
returns c =
    let facts = c.binary_search_by.ensures in
    let by_name = facts.position (λ (v : NamedVersion). name_cmp v.name c.args.name.now) (always_returns_same _ _ _ (λ a r f called. search (rules, of_calls))) in
    let s = searched (λ (v : NamedVersion). v.name) c.args.versions.now c.args.name.now c.requires _ facts.bound by_name in
    record { found = s.0; gap = s.1 }
