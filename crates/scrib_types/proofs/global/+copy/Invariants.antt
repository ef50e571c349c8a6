use Rattle.std.proofs.Common.{◌≡◌, take}
use Rattle.scrib_types.proofs.global.+copy.Given as goal

abbrev pub invariant-copy_branches-loop-message : goal.invariant-copy_branches-loop-message
invariant-copy_branches-loop-message l = l.copies.items ≡ take l.message-index l.branches
