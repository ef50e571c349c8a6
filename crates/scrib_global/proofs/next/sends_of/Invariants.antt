use Rattle.std.proofs.Common.{◌≡◌, ◌++◌, drop}
use Rattle.scrib_types.specs.LocalView.{local_branches}
use Rattle.scrib_global.specs.Next.{sends_of}
use Rattle.scrib_global.proofs.next.sends_of.Given as goal

abbrev pub invariant-loop-message : goal.invariant-loop-message
invariant-loop-message l =
    l.list.items ++ sends_of l.to (local_branches (drop l.message-index l.branches)) ≡ sends_of l.to (local_branches l.branches)
