use Rattle.std.proofs.Common.{Bool, reverse}
use Rattle.scrib_static_checks.specs.Statements.{KeepsRules}
use Rattle.scrib_elaborate.specs.Typing.{Target, made_of, nothing_made, IsState}
use Rattle.scrib_elaborate.proofs.typing.perform_tasks.Given as goal

abbrev pub invariant-loop : goal.invariant-loop
invariant-loop l = (target : Target) (e : Bool) → KeepsRules l.context.modules.now target.root e
    → IsState l.context.modules.now target (reverse l.initial.tasks.items) nothing_made
    → IsState l.context.modules.now target (reverse l.tasks.items) (made_of l.typed)
