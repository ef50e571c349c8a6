use Rattle.std.proofs.Common.{◌≡◌}
use Rattle.std.specs.List.{Contains}
use Rattle.scrib_library.specs.declared.meanings.NamedMeaning.{NamedMeaning}
use Rattle.scrib_library.specs.Elaborated.{elaborated_names, meaning_names, IsProjectionOf}
use Rattle.scrib_library.proofs.meanings.project_all.Given as goal

abbrev pub invariant-loop-named : goal.invariant-loop-named
invariant-loop-named l = record {
  names : meaning_names l.meanings.items ≡ elaborated_names l.yielded;
  sound : (y : NamedMeaning) → Contains l.meanings.items y → IsProjectionOf l.profile l.fn.elaborated.items y;
}
