use Rattle.std.proofs.Common.{◌≡◌}
use Rattle.std.specs.List.{Contains}
use Rattle.scrib_library.specs.declared.meanings.NamedElaborated.{NamedElaborated}
use Rattle.scrib_library.specs.Entries.{entry_names}
use Rattle.scrib_library.specs.Elaborated.{elaborated_names, IsFoundAmong}
use Rattle.scrib_library.proofs.meanings.elaborate_all.Given as goal

abbrev pub invariant-loop-entry : goal.invariant-loop-entry
invariant-loop-entry l = record {
  among : l.elaborator ≡ l.modules;
  names : elaborated_names l.all.items ≡ entry_names l.yielded;
  sound : (x : NamedElaborated) → Contains l.all.items x → IsFoundAmong l.modules l.fn.entries.items x;
}
