use Rattle.std.proofs.Common.{◌≡◌, ◌++◌, drop}
use Rattle.scrib_types.specs.GlobalView.{global_branches}
use Rattle.scrib_record.specs.Flat.{branches_bytes}
use Rattle.scrib_record.proofs.flat.+flat.Given as goal

abbrev pub invariant-push_branches-loop-message : goal.invariant-push_branches-loop-message
invariant-push_branches-loop-message l =
    l.out.items ++ branches_bytes (global_branches (drop l.message-index l.branches)) ≡ l.fn.out.items ++ branches_bytes (global_branches l.branches)
