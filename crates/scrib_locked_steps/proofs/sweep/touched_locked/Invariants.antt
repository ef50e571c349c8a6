use Rattle.scrib_locked_steps.proofs.StaleListLemmas.{AreTouchedUnder}
use Rattle.scrib_locked_steps.proofs.sweep.touched_locked.Given as goal

abbrev pub invariant-loop-place : goal.invariant-loop-place
invariant-loop-place l = AreTouchedUnder l.library l.shard.records l.shard-inside.directory.index.entries l.place l.ids.items
