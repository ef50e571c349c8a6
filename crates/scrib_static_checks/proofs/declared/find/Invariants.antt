use Rattle.std.proofs.Common.{◌≡◌, drop}
use Rattle.scrib_static_checks.specs.Names.{is_called, first_where}
use Rattle.scrib_static_checks.specs.Table.{shown}
use Rattle.scrib_static_checks.proofs.declared.find.Given as goal

abbrev pub invariant-loop-i : goal.invariant-loop-i
invariant-loop-i l =
    first_where (is_called l.home l.name) (shown (drop l.i l.declared)) ≡ first_where (is_called l.home l.name) (shown l.declared)
