use Rattle.std.proofs.Common.{length}
use Rattle.scrib_examples.proofs.making.steps_of.Given as goal

abbrev pub decreases-loop-rest : goal.decreases-loop-rest
decreases-loop-rest l = length l.rest
