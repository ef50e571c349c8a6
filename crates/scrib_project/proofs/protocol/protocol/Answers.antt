use Rattle.std.proofs.lemmas.Result.{err_from_is_err_and}
use Rattle.scrib_project.proofs.protocol.protocol.Goals as goal

pub returns-in_err-projected-clause-place : goal.returns-in_err-projected-clause-place
returns-in_err-projected-clause-place c = λ modules home name sites.
    let p = err_from_is_err_and c.from_residual.result c.from_residual.ensures.1 in
    rw (p.1, p.2) (c.in_err-projected.ensures.place modules home name sites)
