use Rattle.std.proofs.Common.{◌≡◌, ◌≤◌, ◌++◌, length, drop}
use Rattle.scrib_types.specs.LocalView.{local_branches}
use Rattle.scrib_types.specs.Texts.{joined_by}
use Rattle.scrib_projection.specs.Text.{branch_texts}
use Rattle.scrib_projection.proofs.Texts.{following, is_later}
use Rattle.scrib_projection.proofs.text.+text.Given as goal

abbrev pub invariant-push_branches-loop-i : goal.invariant-push_branches-loop-i
invariant-push_branches-loop-i l = record {
  written : l.out.items ++ following (is_later l.i) (branch_texts l.depth (local_branches (drop l.i l.branches))) ≡ l.fn.out.items ++ joined_by 44 (branch_texts l.depth (local_branches l.branches));
  longer : l.depth ≤ length l.out.items;
}
