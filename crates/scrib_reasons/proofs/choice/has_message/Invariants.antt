use Rattle.std.proofs.Common.{◌≡◌, drop}
use Rattle.scrib_types.specs.LocalView.{local_branches}
use Rattle.scrib_reasons.specs.Tests.{has_message}
use Rattle.scrib_reasons.proofs.choice.has_message.Given as goal

abbrev pub invariant-loop-other : goal.invariant-loop-other
invariant-loop-other l = has_message l.message (local_branches (drop l.other-index l.branches)) ≡ has_message l.message (local_branches l.branches)
