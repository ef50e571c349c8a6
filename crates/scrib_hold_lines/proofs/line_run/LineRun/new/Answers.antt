use Rattle.scrib_hold_lines.proofs.RunLemmas.{is_new}
use Rattle.scrib_hold_lines.proofs.line_run.LineRun.new.Goals as goal

pub returns : goal.returns
returns c = is_new c.args.limits c.args.bound _ c.new.ensures.read c.new-3.ensures c.new.ensures.placed
