use Rattle.std.proofs.Common.{◌+◌, ◌-◌, ◌≤◌, length, take}
use Rattle.scrib_library.specs.Affected.{names_now, waiting_trees}
use Rattle.scrib_library.proofs.AffectedLemmas.{AreSorted, ImportNone}
use Rattle.scrib_library.proofs.affected.affected.Given as goal

abbrev pub invariant-loop-at : goal.invariant-loop-at
invariant-loop-at l =
    AreSorted l.modules l.edited (waiting_trees l.waiting.items) (names_now l.names.items) × ImportNone l.waiting.items (take l.at l.names.items) × (l.at ≤ length l.names.items)

abbrev pub decreases-loop-at : goal.decreases-loop-at
decreases-loop-at l = length l.waiting.items + length l.waiting.items + (length l.names.items - l.at)
