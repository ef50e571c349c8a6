use Rattle.scrib_core.specs.declared.step.Step.TheVariants as step
use Rattle.scrib_hold_lines.proofs.SpelledLines.{writes_step}
use Rattle.scrib_hold_lines.proofs.staging.staged_step.Goals as goal

pub returns-in-Open-clause-passing : goal.returns-in-Open-clause-passing
returns-in-Open-clause-passing c = rw c.in-Open.is (λ text h. writes_step text c.args.format (step.Open c.in-Open.id c.in-Open._name) h)

pub returns-in-Ask-clause-passing : goal.returns-in-Ask-clause-passing
returns-in-Ask-clause-passing c = rw c.in-Ask.is (λ text h. writes_step text c.args.format (step.Ask c.in-Ask._id) h)

pub returns-in-Turn-clause-passing : goal.returns-in-Turn-clause-passing
returns-in-Turn-clause-passing c = rw c.in-Turn.is (λ text h. writes_step text c.args.format (step.Turn c.in-Turn._id) h)

pub returns-in-Withdraw-clause-passing : goal.returns-in-Withdraw-clause-passing
returns-in-Withdraw-clause-passing c = rw c.in-Withdraw.is (λ text h. writes_step text c.args.format (step.Withdraw c.in-Withdraw._name) h)

pub returns-in-Profile-clause-passing : goal.returns-in-Profile-clause-passing
returns-in-Profile-clause-passing c = rw c.in-Profile.is (λ text h. writes_step text c.args.format (step.Profile c.in-Profile._profile) h)
