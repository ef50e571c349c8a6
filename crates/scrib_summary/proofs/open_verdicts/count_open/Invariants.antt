use Rattle.std.proofs.Common.{take}
use Rattle.std.specs.Map.{keys_of}
use Rattle.scrib_core.specs.Held.{state_of}
use Rattle.scrib_summary.specs.VerdictCounts.{CountsVerdicts}
use Rattle.scrib_summary.proofs.open_verdicts.count_open.Given as goal

abbrev pub invariant-loop-index : goal.invariant-loop-index
invariant-loop-index l =
    CountsVerdicts (state_of l.core) (take l.index (keys_of (state_of l.core).world.conversations)) l.initial.counts l.counts
