use Rattle.std.proofs.Common.{◌≡◌, take}
use Rattle.scrib_types.specs.GlobalView.{global_branches}
use Rattle.scrib_type_builder.specs.Shifting.{branches_shifted}
use Rattle.scrib_type_builder.proofs.shift.+shift.Given as goal

abbrev pub invariant-shifted_branches-loop-message : goal.invariant-shifted_branches-loop-message
invariant-shifted_branches-loop-message l =
    global_branches l.more.items ≡ branches_shifted l.under (global_branches (take l.message-index l.branches))
