use Rattle.std.proofs.Common.{◌∙◌, sym, subst}
use Rattle.std.proofs.lemmas.Result.{err_from_is_err_and}
use Rattle.scrib_locked_steps.specs.Shards.{IsLawfulShard}
use Rattle.scrib_shards.proofs.service.Service.open.Goals as goal

pub returns-in_err-open_step-clause-fault : goal.returns-in_err-open_step-clause-fault
returns-in_err-open_step-clause-fault g c =
    let p = err_from_is_err_and c.from_residual.result c.from_residual.ensures.1 in
    rw (p.1, p.2) (
      c.deref-library.result.now,
      c.deref_mut.result.now,
      c.is_accepting.ensures,
      subst IsLawfulShard (c.deref-2.ensures ∙ sym c.deref_mut.ensures.value) c.len-conversations.ensures.kept,
      c.in_err-open_step.ensures.fault,
    )
