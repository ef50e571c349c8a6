use Rattle.std.proofs.Common.{◌≡◌, ◌+◌, take}
use Rattle.scrib_library.specs.Summaries.{declared_count}
use Rattle.scrib_library.proofs.room.declares_too_many.Given as goal

abbrev pub invariant-loop-summary : goal.invariant-loop-summary
invariant-loop-summary l = l.left + declared_count (take l.summary-index l.summaries) ≡ 1024
