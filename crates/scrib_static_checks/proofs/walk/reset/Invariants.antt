use Rattle.std.proofs.Common.{◌≡◌, ℕ, ◌<◌, Some}
use Rattle.std.specs.List.{slice_get}
use Rattle.scrib_static_checks.specs.declared.checking.State.{State}
use Rattle.scrib_static_checks.specs.declared.checking.State.TheVariants.{Unwalked}
use Rattle.scrib_static_checks.proofs.walk.reset.Given as goal

abbrev pub invariant-loop-state : goal.invariant-loop-state
invariant-loop-state l = (k : ℕ) (s : State) → k < l.state-index → slice_get l.states k ≡ Some s → s ≡ Unwalked
