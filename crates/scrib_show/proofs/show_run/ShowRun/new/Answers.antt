use Rattle.scrib_show.proofs.RunLemmas.{new_run}
use Rattle.scrib_show.proofs.show_run.ShowRun.new.Goals as goal

pub returns : goal.returns
returns c =
    new_run c.args.limits c.args.id _ c.with_limits.ensures.holds c.with_limits.ensures.lines c.with_limits.ensures.bytes c.with_limits.ensures.limits
    c.new.ensures.state c.new.ensures.id c.new.ensures.none
