use Rattle.std.proofs.lemmas.Result.{on_err_weaker}
use Rattle.scrib_core.specs.Held.{state_of}
use Rattle.scrib_cli.proofs.CheckLemmas.{checked, part_checked}
use Rattle.scrib_cli.proofs.check.check_module.Goals as goal

pub returns-clause-ok : goal.returns-clause-ok
returns-clause-ok g c =
    checked c.in_ok-text.text (state_of c.args.core.now) (state_of c.apply-reply.new.self) c.apply-reply.result (g.W.Write.contents c.args.writer.now) (g.W.Write.contents c.write_put_reply.new.writer) c.apply-reply.ensures.answered
    c.write_put_reply.result (g.R.Read.remaining c.args.reader.now) c.in_ok-text.ensures.text c.write_put_reply.ensures.ok

pub returns-clause-err : goal.returns-clause-err
returns-clause-err g c =
    on_err_weaker c.write_put_reply.result
    (part_checked c.in_ok-text.text (state_of c.args.core.now) (state_of c.apply-reply.new.self) c.apply-reply.result (g.W.Write.contents c.args.writer.now) (g.W.Write.contents c.write_put_reply.new.writer) c.apply-reply.ensures.answered
    (g.R.Read.remaining c.args.reader.now) c.in_ok-text.ensures.text)
    c.write_put_reply.ensures.err
