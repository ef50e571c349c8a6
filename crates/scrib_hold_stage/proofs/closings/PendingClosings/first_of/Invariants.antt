use Rattle.std.proofs.Common.{◌≤◌, ◌-◌, length, take}
use Rattle.std.specs.List.{AllByRecursion}
use Rattle.scrib_hold_stage.specs.PendingClosings.{IsApart}
use Rattle.scrib_hold_stage.proofs.closings.PendingClosings.first_of.Given as goal

abbrev pub invariant-loop-closing : goal.invariant-loop-closing
invariant-loop-closing g l = (l.index ≤ length l.self.closings.items) × AllByRecursion (IsApart l.conversation) (take l.index l.self.closings.items)

abbrev pub decreases-loop-closing : goal.decreases-loop-closing
decreases-loop-closing g l = length l.self.closings.items - l.index
