use Rattle.std.proofs.Common.{sym, ⊎_elim, arith}
use Rattle.std.proofs.lemmas.Option.{slice_get_within}
use Rattle.scrib_static_checks.specs.declared.checking.State.TheVariants.{Unwalked}
use Rattle.scrib_static_checks.proofs.Walks.{get_set}
use Rattle.scrib_static_checks.proofs.walk.reset.Goals as goal

pub loop-state-preserved : goal.loop-state-preserved
loop-state-preserved c = λ k s h e.
    ⊎_elim (λ x. sym x.1) (λ x. c.loop-state.invariant k s (let other = x.0 in omega arith) x.1) (get_set c.loop-state.states c.loop-state.state-index Unwalked k s e)

pub returns : goal.returns
returns c = record { long = c.loop-state.auto.states; fresh = λ k s e. c.loop-state.invariant k s (let within = slice_get_within c.loop-state.states k s e in omega arith) e }
