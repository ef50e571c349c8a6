use Rattle.std.proofs.lemmas.Result.{err_from_is_err_and, on_ok_weaker}
use Rattle.scrib_labelled.proofs.EndLemmas.{end_moved, ended_cut}
use Rattle.scrib_labelled.proofs.labelled_run.LabelledRun.finish.Goals as goal

pub returns-in_err-write_all-clause-err : goal.returns-in_err-write_all-clause-err
returns-in_err-write_all-clause-err g c =
    let p = err_from_is_err_and c.from_residual.result c.from_residual.ensures.1 in
    rw p.1
    (ended_cut g.S.EntryStage.Took g.S.EntryStage.TookAll g.S.EntryStage.TookPart g.met.S.EntryStage.all_is_part g.met.S.EntryStage.less_is_part c.gather_end-ended.result c.args.self.now c.gather_end-ended.new.self.stage
    (g.S.EntryStage.gathered c.gather_end-ended.new.self.stage) (g.W.Write.contents c.args.writer.now) (g.W.Write.contents c.write_all.new.writer) c.gather_end-ended.ensures.ok c.gather_end-ended.ensures.err c.in_err-write_all.ensures.err)

pub returns-clause-ok : goal.returns-clause-ok
returns-clause-ok g c =
    on_ok_weaker c.gather_end-ended.result
    (λ e. (
      g.S.EntryStage.gathered c.gather_end-ended.new.self.stage,
      end_moved g.S.EntryStage.Took g.S.EntryStage.TookAll c.args.self.now c.gather_end-ended.new.self.stage c.write_all.new.self (g.S.EntryStage.gathered c.gather_end-ended.new.self.stage) c.write_all.ensures.all e,
      c.in_ok-write_all.ensures.ok,
    ))
    c.gather_end-ended.ensures.ok
