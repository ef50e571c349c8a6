use Rattle.std.proofs.Common.{refl}
use Rattle.scrib_cli.proofs.RunLemmas.{is_new}
use Rattle.scrib_cli.proofs.run.ScriptRun.new.Goals as goal

pub returns : goal.returns
returns c = is_new c.args.limits c.args.output_mode _ refl c.with_limits.ensures.holds c.with_limits.ensures.lines c.with_limits.ensures.bytes c.with_limits.ensures.limits c.new.ensures
