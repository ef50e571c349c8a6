use Rattle.std.proofs.lemmas.Result.{err_from_is_err_and}
use Rattle.scrib_library.proofs.ElaborationLemmas.{meanings_made, no_meanings}
use Rattle.scrib_library.proofs.meanings.meanings_of.Goals as goal

pub returns-in_err-elaborated-clause-fault : goal.returns-in_err-elaborated-clause-fault
returns-in_err-elaborated-clause-fault c =
    let p = err_from_is_err_and c.from_residual.result c.from_residual.ensures.1 in
    rw (p.1, p.2) (c.in_err-elaborated.ensures.fault c.args.profile)

pub returns-in_err-meanings-clause-fault : goal.returns-in_err-meanings-clause-fault
returns-in_err-meanings-clause-fault c =
    let p = err_from_is_err_and c.from_residual-in_err-meanings.result c.from_residual-in_err-meanings.ensures.1 in
    rw (p.1, p.2) (no_meanings c.args.modules.now c.args.entries.items c.args.profile c.in_ok-elaborated.elaborated.items c.in_ok-elaborated.ensures.ok c.requires.sorted c.requires.stand c.in_err-meanings.field-0.0 c.in_err-meanings.ensures.fault)

pub returns-clause-ok : goal.returns-clause-ok
returns-clause-ok c =
    meanings_made c.args.modules.now c.args.entries.items c.args.profile c.in_ok-elaborated.elaborated.items c.in_ok-elaborated.ensures.ok c.in_ok-meanings.meanings.items c.in_ok-meanings.ensures.ok
