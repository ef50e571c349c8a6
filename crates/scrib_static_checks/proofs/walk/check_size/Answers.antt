use Rattle.scrib_static_checks.proofs.Checks.{state_is}
use Rattle.scrib_static_checks.proofs.Walks.{small_at, large_fails, not_walked}
use Rattle.scrib_static_checks.proofs.walk.check_size.Goals as goal

pub returns-then-fits-clause-ok : goal.returns-then-fits-clause-ok
returns-then-fits-clause-ok c = λ modules w.
    small_at modules _ c.args.states.now c.args.root c.in-Walked.summary (state_is c.args.states.now c.args.root _ _ c.requires.stated c.in-Walked.is) (rw c.if-fits.true at c.fits.ensures) w

pub returns-else-fits-clause-fault : goal.returns-else-fits-clause-fault
returns-else-fits-clause-fault c = λ modules w.
    large_fails modules c.args.declared.now c.args.states.now c.args.root c.index-declared-root.result c.in-Walked.summary c.requires.there c.index-declared-root.is (state_is c.args.states.now c.args.root _ _ c.requires.stated c.in-Walked.is) (rw c.if-fits.false at c.fits.ensures) w c.fault_in.result c.fault_in.ensures

pub returns-in-Walking-clause-ok : goal.returns-in-Walking-clause-ok
returns-in-Walking-clause-ok c = λ modules w.
    let is = state_is c.args.states.now c.args.root _ _ c.requires.stated c.in-Walking.is in
    absurd (not_walked modules c.args.declared.now c.args.states.now c.args.root c.requires.there (λ s e. cc (is, e)) w)

pub returns-in-Unwalked-clause-ok : goal.returns-in-Unwalked-clause-ok
returns-in-Unwalked-clause-ok c = λ modules w.
    let is = state_is c.args.states.now c.args.root _ _ c.requires.stated c.in-Unwalked.is in
    absurd (not_walked modules c.args.declared.now c.args.states.now c.args.root c.requires.there (λ s e. cc (is, e)) w)
