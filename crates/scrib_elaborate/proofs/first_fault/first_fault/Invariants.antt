use Rattle.scrib_static_checks.specs.Table.{declaration_of}
use Rattle.scrib_elaborate.specs.Typing.{StopsAhead}
use Rattle.scrib_elaborate.proofs.first_fault.first_fault.Given as goal

abbrev pub invariant-loop : goal.invariant-loop
invariant-loop l = StopsAhead l.context.modules.now (declaration_of l.context.root) l.ahead.items l.reported
