use Rattle.std.proofs.Common.{refl}
use Rattle.scrib_static_checks.specs.Table.{declaration_of}
use Rattle.scrib_elaborate.specs.Typing.{nothing_made}
use Rattle.scrib_elaborate.proofs.Steps.{begins}
use Rattle.scrib_elaborate.proofs.typing.first_task.Goals as goal

pub returns : goal.returns
returns c = λ modules.
    begins modules (declaration_of c.args.root) c.new-tasks.result.items c.push.new.self.items c.in_ok-scope.scope c.as_slice-statements.result nothing_made c.new-tasks.ensures.items c.in_ok-push.ensures.items c.in_ok-scope.ensures c.as_slice-statements.ensures refl
