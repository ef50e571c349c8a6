use Rattle.scrib_closing.proofs.ClosingRunLemmas.{is_new}
use Rattle.scrib_closing.proofs.closing_run.ClosingRun.new.Goals as goal

pub returns : goal.returns
returns c = is_new c.args.format c.args.limits _ c.with_limits.ensures.holds c.with_limits.ensures.lines c.with_limits.ensures.bytes c.with_limits.ensures.limits c.new.ensures
