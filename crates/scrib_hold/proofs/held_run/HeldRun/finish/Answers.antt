use Rattle.std.proofs.lemmas.Result.{err_from_is_err_and}
use Rattle.scrib_hold.proofs.HeldRunLemmas.{ended_cut}
use Rattle.scrib_hold.proofs.held_run.HeldRun.finish.Goals as goal

pub returns-in_err-write_all-clause-err : goal.returns-in_err-write_all-clause-err
returns-in_err-write_all-clause-err g c =
    let p = err_from_is_err_and c.from_residual.result c.from_residual.ensures.1 in
    rw p.1 (ended_cut c.gather_end-ended.result c.args.self.now c.gather_end-ended.new.self.monitor.sink.gathered.bytes.items (g.W.Write.contents c.args.writer.now) (g.W.Write.contents c.write_all.new.writer)
    c.gather_end-ended.ensures.ok c.gather_end-ended.ensures.err c.in_err-write_all.ensures.err)
