use Rattle.std.proofs.Common.{◌≡◌, ◌++◌, map, Ok}
use Rattle.std.specs.Vec.Iter.{into_iter_items}
use Rattle.scrib_run_service.proofs.run_service.all_closed.Given as goal

abbrev pub invariant-loop-one : goal.invariant-loop-one
invariant-loop-one l = map (λ c. Ok c) l.closed.items ++ into_iter_items l.one-iterator ≡ l.fn.ran.items
