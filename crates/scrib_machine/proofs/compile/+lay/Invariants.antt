use Rattle.std.proofs.Common.{◌≡◌, ◌+◌, ◌*◌, take, reverse}
use Rattle.scrib_types.specs.LocalView.{local_of, local_branches}
use Rattle.scrib_machine.specs.Compilable.{nodes, nodes_all}
use Rattle.scrib_machine.specs.Layout.{PlacedAll}
use Rattle.scrib_machine.proofs.compile.+lay.Given as goal

abbrev pub invariant-lay_all-loop-local : goal.invariant-lay_all-loop-local
invariant-lay_all-loop-local l =
    PlacedAll l.initial.rows.items l.rows.items (reverse l.outer.items) (local_branches (take l.local-index l.branches)) l.nexts.items × (l.outer.items ≡ l.initial.outer.items)

abbrev pub decreases-lay : goal.decreases-lay
decreases-lay l = 3 * nodes (local_of l.local.now)

abbrev pub decreases-lay_all : goal.decreases-lay_all
decreases-lay_all l = 3 * nodes_all (local_branches l.branches.now) + 1

abbrev pub decreases-lay_sends : goal.decreases-lay_sends
decreases-lay_sends l = 3 * nodes_all (local_branches l.branches.now) + 2

abbrev pub decreases-lay_receptions : goal.decreases-lay_receptions
decreases-lay_receptions l = 3 * nodes_all (local_branches l.branches.now) + 2
