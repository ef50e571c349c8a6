use Rattle.std.proofs.lemmas.Result.{on_err_weaker}
use Rattle.scrib_hold_lines.proofs.Passings.{err_unadded, line_unadded}
use Rattle.scrib_hold_lines.proofs.output.append_passing.Goals as goal

pub returns-in-Line-clause-err : goal.returns-in-Line-clause-err
returns-in-Line-clause-err c =
    rw c.in-Line.is (on_err_weaker c.extend_from_slice.result
    (λ same. line_unadded c.args.line.now c.args.output.now.items c.extend_from_slice.new.self.items same)
    (err_unadded c.extend_from_slice.result c.args.output.now.items c.extend_from_slice.new.self.items c.args.line.now c.extend_from_slice.ensures.items))

pub returns-in-Put-clause-ok : goal.returns-in-Put-clause-ok
returns-in-Put-clause-ok c = rw (c.in-Put.is, ← c.as_slice.ensures) c.append_put.ensures.ok

pub returns-in-Put-clause-err : goal.returns-in-Put-clause-err
returns-in-Put-clause-err c = rw (c.in-Put.is, ← c.as_slice.ensures) c.append_put.ensures.err
