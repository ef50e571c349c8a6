use Rattle.std.proofs.lemmas.Result.{err_from_is_err_and}
use Rattle.scrib_library.proofs.ElaborationLemmas.{broken_entry}
use Rattle.scrib_library.proofs.meanings.elaborate_entry.Goals as goal

pub returns-in_err-elaborate-clause-fault : goal.returns-in_err-elaborate-clause-fault
returns-in_err-elaborate-clause-fault c =
    let p = err_from_is_err_and c.from_residual.result c.from_residual.ensures.1 in
    rw (p.1, p.2) (broken_entry c.args.elaborator.now c.args.entry _ c.if-is_declared.true c.in_err-elaborate.ensures.only c.in_err-elaborate.ensures.fault)
