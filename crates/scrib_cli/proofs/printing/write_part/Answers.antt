use Rattle.std.proofs.lemmas.Result.{err_from_is_err_and}
use Rattle.scrib_script_io.proofs.FaultLemmas.{written_of_output, memory_of_output}
use Rattle.scrib_cli.proofs.printing.write_part.Goals as goal

pub returns-in_err-push_part-clause-fault : goal.returns-in_err-push_part-clause-fault
returns-in_err-push_part-clause-fault g c =
    let p = err_from_is_err_and c.from_residual.result c.from_residual.ensures.1 in
    rw p.1 (memory_of_output p.0 p.2)

pub returns-clause-fault : goal.returns-clause-fault
returns-clause-fault g c = written_of_output c.write_out.result c.write_out.ensures.fault
