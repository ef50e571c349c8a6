use Rattle.std.proofs.lemmas.Result.{err_from_is_err_and}
use Rattle.scrib_library.proofs.ElaborationLemmas.{projected_named, nothing_named, unprojected_named}
use Rattle.scrib_library.proofs.meanings.project_named.Goals.{in-Some+in_ok-projected-in-Some+in_ok-compiled_of-in-Some, in-None}
use Rattle.scrib_library.proofs.meanings.project_named.Goals as goal

pub returns-clause-ok : goal.returns-clause-ok
returns-clause-ok c = elim c.match-elaborated.branch [
  | in-Some+in_ok-projected-in-Some+in_ok-compiled_of-in-Some w ↦ projected_named c.args.profile c.args.named _ w.in_ok-projected-in-Some.projected _ _ w.in-Some.is w.in_ok-projected-in-Some.ensures.value w.in_ok-compiled_of-in-Some.ensures w.compiled-is
  | in-None w ↦ nothing_named c.args.profile c.args.named _ w.in-None.is w.compiled-is
]

pub returns-in_err-projected-in-Some-clause-fault : goal.returns-in_err-projected-in-Some-clause-fault
returns-in_err-projected-in-Some-clause-fault c =
    let p = err_from_is_err_and c.from_residual.result c.from_residual.ensures.1 in
    rw (p.1, p.2) (unprojected_named c.args.profile c.args.named c.in-Some.elaborated c.in_err-projected-in-Some.field-0.0 c.in-Some.is c.in_err-projected-in-Some.ensures.value c.in_err-projected-in-Some.ensures.place)
