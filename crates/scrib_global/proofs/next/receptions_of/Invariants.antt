use Rattle.std.proofs.Common.{◌≡◌, ◌++◌, drop}
use Rattle.scrib_types.specs.LocalView.{local_branches}
use Rattle.scrib_global.specs.Next.{receptions_of}
use Rattle.scrib_global.proofs.next.receptions_of.Given as goal

abbrev pub invariant-loop-message : goal.invariant-loop-message
invariant-loop-message l =
    l.list.items ++ receptions_of l.from (local_branches (drop l.message-index l.branches)) ≡ receptions_of l.from (local_branches l.branches)
