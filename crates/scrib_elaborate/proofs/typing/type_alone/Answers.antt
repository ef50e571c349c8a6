use Rattle.scrib_static_checks.specs.Table.{declaration_of}
use Rattle.scrib_elaborate.specs.Typing.{whole_target}
use Rattle.scrib_elaborate.proofs.typing.type_alone.Goals as goal

pub returns-in-Ok : goal.returns-in-Ok
returns-in-Ok c =
    let context = c.args.context.now in
    c.in-Ok.ensures (whole_target (declaration_of context.root)) c.requires.kept.0 c.requires.kept.1 (c.in_ok-tasks.ensures context.modules.now)
