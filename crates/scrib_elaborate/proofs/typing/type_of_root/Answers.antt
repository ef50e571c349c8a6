use Rattle.scrib_static_checks.specs.Table.{declaration_of}
use Rattle.scrib_elaborate.specs.Typing.{whole_target}
use Rattle.scrib_elaborate.proofs.typing.type_of_root.Goals as goal

pub returns-in-Ok-clause-ok : goal.returns-in-Ok-clause-ok
returns-in-Ok-clause-ok c =
    let context = c.args.context.now in
    c.in-Ok.ensures (whole_target (declaration_of context.root)) c.requires.kept.0 c.requires.kept.1 (c.in_ok-tasks.ensures context.modules.now)

pub first_fault-requires-clause-found : goal.first_fault-requires-clause-found
first_fault-requires-clause-found c =
    let context = c.args.context.now in
    c.in-Err.ensures (whole_target (declaration_of context.root)) c.requires.kept.0 c.requires.kept.1 (c.in_ok-tasks.ensures context.modules.now)
