use Rattle.std.proofs.Common.{◌≡◌, drop}
use Rattle.scrib_library.specs.Modules.{missing_import}
use Rattle.scrib_library.proofs.room.missing_import.Given as goal

abbrev pub invariant-loop-import : goal.invariant-loop-import
invariant-loop-import l =
    missing_import l.modules (drop l.import-index l.imports) ≡ missing_import l.modules l.imports
