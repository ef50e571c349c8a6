use Rattle.std.proofs.Common.{◌≡◌}
use Rattle.std.proofs.lemmas.Result.{IfErr-weaker}
use Rattle.scrib_library.specs.declared.fault.EditFault.TheVariants.{OutOfMemory}
use Rattle.scrib_library.specs.Drafts.{StopsDraft}
use Rattle.scrib_library.proofs.WithdrawalLemmas.{only_memory}
use Rattle.scrib_library.proofs.plan.plan_withdrawal.Goals as goal

pub returns-clause-fault : goal.returns-clause-fault
returns-clause-fault c =
    let vs = c.args.versions.now.items in
    let ys = c.in_ok-meanings.meanings.items in
    IfErr-weaker c.plan_edits.result (StopsDraft vs ys c.args.used) (λ f. f ≡ OutOfMemory)
    (only_memory c.args.gone.now ys c.in_ok-meanings.ensures vs c.args.used c.requires.few)
    c.plan_edits.ensures.fault
