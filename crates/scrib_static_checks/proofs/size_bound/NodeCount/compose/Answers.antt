use Rattle.scrib_static_checks.proofs.CapLemmas.{compose_agrees}
use Rattle.scrib_static_checks.proofs.size_bound.NodeCount.compose.Goals as goal

pub returns : goal.returns
returns c = compose_agrees c.args.self c.args.inner c.new.result c.new.ensures.base c.new.ensures.times
