use Rattle.std.proofs.Common.{subst}
use Rattle.std.specs.Prelude.{IfOk, OnErr}
use Rattle.scrib_core.specs.Answers.{State}
use Rattle.scrib_cli.specs.Commands.{AreChecked, ArePartChecked}
use Rattle.scrib_cli.proofs.commands.check.check_files.Goals as goal

pub returns-clause-ok : goal.returns-clause-ok
returns-clause-ok g c =
    subst (λ (w : State). IfOk c.check_each.result (λ accepted. (after : State) × AreChecked (g.F.Folder.text c.args.folder.now) c.args.paths.now w accepted after (g.W.Write.contents c.args.writer.now) (g.W.Write.contents c.check_each.new.writer)))
    c.with_profile-core.ensures c.check_each.ensures.ok

pub returns-clause-err : goal.returns-clause-err
returns-clause-err g c =
    subst (λ (w : State). OnErr c.check_each.result (ArePartChecked (g.F.Folder.text c.args.folder.now) c.args.paths.now w (g.W.Write.contents c.args.writer.now) (g.W.Write.contents c.check_each.new.writer)))
    c.with_profile-core.ensures c.check_each.ensures.err
