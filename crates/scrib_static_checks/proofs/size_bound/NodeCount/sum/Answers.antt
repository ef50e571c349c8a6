use Rattle.scrib_static_checks.proofs.CapLemmas.{sum_agrees}
use Rattle.scrib_static_checks.proofs.size_bound.NodeCount.sum.Goals as goal

pub returns : goal.returns
returns c = sum_agrees c.args.self c.args.other c.new.result c.new.ensures.base c.new.ensures.times
