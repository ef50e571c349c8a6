use Rattle.std.proofs.Common.{take}
use Rattle.scrib_library.specs.Lacking.{AllVersionsProject}
use Rattle.scrib_library.proofs.profiles.first_lacking.Given as goal

abbrev pub invariant-loop-named : goal.invariant-loop-named
invariant-loop-named l = AllVersionsProject l.profile (take l.named-index l.versions)
