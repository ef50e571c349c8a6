use Rattle.scrib_types.specs.LocalView.{local_of}
use Rattle.scrib_global.proofs.Steps.{recursions}
use Rattle.scrib_global.proofs.trace.+after.Given as goal

abbrev pub decreases-after : goal.decreases-after
decreases-after l = recursions (local_of l.local.now)
