use Rattle.std.proofs.Common.{◌≡◌, None}
use Rattle.std.specs.List.{Contains}
use Rattle.scrib_library.specs.declared.meanings.NamedMeaning.{NamedMeaning}
use Rattle.scrib_library.specs.Entries.{entry_names}
use Rattle.scrib_library.specs.Elaborated.{meaning_names, meant}
use Rattle.scrib_library.proofs.meanings.without_meanings.Given as goal

abbrev pub invariant-loop-entry : goal.invariant-loop-entry
invariant-loop-entry l = record {
  names : meaning_names l.meanings.items ≡ entry_names l.yielded;
  nothing : (y : NamedMeaning) → Contains l.meanings.items y → meant y ≡ None;
}
