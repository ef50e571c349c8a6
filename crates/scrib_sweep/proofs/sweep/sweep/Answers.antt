use Rattle.std.proofs.Common.{ℕ, Result, Ok, Err}
use Rattle.std.specs.Prelude.{IsErr}
use Rattle.std.proofs.lemmas.Bool.{false≢true}
use Rattle.std.specs.Result.{result_ok}
use Rattle.std.specs.declared.alloc.AllocError.{AllocError}
use Rattle.scrib_core.specs.Answers.{State}
use Rattle.scrib_core.specs.Held.{state_of}
use Rattle.scrib_sweep.specs.Sweeps.{IsSwept}
use Rattle.scrib_sweep.proofs.SweepSteps.{sweep_none}
use Rattle.scrib_sweep.proofs.sweep.sweep.Goals as goal

none_swept : (s : State) (r : Result ℕ AllocError) → IsErr r → IsSwept s (result_ok r) s
none_swept s (Ok n) e = absurd (false≢true e)
none_swept s (Err f) e = (0, sweep_none s)

pub returns-in_err-stale-clause-swept : goal.returns-in_err-stale-clause-swept
returns-in_err-stale-clause-swept c = none_swept (state_of c.args.core.now) c.from_residual.result c.from_residual.ensures.0
