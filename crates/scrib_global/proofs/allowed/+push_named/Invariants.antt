use Rattle.std.proofs.Common.{◌≡◌, ◌++◌, drop}
use Rattle.scrib_types.specs.LocalView.{local_branches}
use Rattle.scrib_global.specs.Named.{named_sends, named_receptions}
use Rattle.scrib_global.proofs.allowed.+push_named.Given as goal

abbrev pub invariant-push_sends-loop-message : goal.invariant-push_sends-loop-message
invariant-push_sends-loop-message l =
    l.list.items ++ named_sends l.to (local_branches (drop l.message-index l.branches)) ≡ l.fn.list.items ++ named_sends l.to (local_branches l.branches)

abbrev pub invariant-push_receptions-loop-message : goal.invariant-push_receptions-loop-message
invariant-push_receptions-loop-message l =
    l.list.items ++ named_receptions l.from (local_branches (drop l.message-index l.branches)) ≡ l.fn.list.items ++ named_receptions l.from (local_branches l.branches)
