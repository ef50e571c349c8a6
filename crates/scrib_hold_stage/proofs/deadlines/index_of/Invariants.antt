use Rattle.std.proofs.Common.{◌≤◌, ◌-◌, length, take}
use Rattle.scrib_hold_stage.specs.Deadlines.{AreOfOthers}
use Rattle.scrib_hold_stage.proofs.deadlines.index_of.Given as goal

abbrev pub invariant-loop-deadline : goal.invariant-loop-deadline
invariant-loop-deadline l = (l.index ≤ length l.deadlines.items) × AreOfOthers l.conversation (take l.index l.deadlines.items)

abbrev pub decreases-loop-deadline : goal.decreases-loop-deadline
decreases-loop-deadline l = length l.deadlines.items - l.index
