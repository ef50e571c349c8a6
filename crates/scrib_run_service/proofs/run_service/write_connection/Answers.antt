use Rattle.std.proofs.Common.{◌≡◌, ◌∙◌}
use Rattle.scrib_report.specs.ReplyTexts.{heading}
use Rattle.scrib_run_service.proofs.ResultLemmas.{on_err_any}
use Rattle.scrib_run_service.proofs.PartialWriteLemmas.{part_before, failed_after}
use Rattle.scrib_run_service.proofs.run_service.write_connection.Goals as goal

pub returns-in_err-write_out-clause-err : goal.returns-in_err-write_out-clause-err
returns-in_err-write_out-clause-err g c =
    let was = g.W.Write.contents c.args.writer.now in
    let now = g.W.Write.contents c.write_out.new.writer in
    let is : c.as_slice.result.now ≡ heading c.args.format c.args.number = c.as_slice.ensures.value ∙ c.in_ok-heading.ensures in
    on_err_any c.from_residual-in_err-write_out.result (part_before was now (heading c.args.format c.args.number) c.args.lines.now (rw is at c.in_err-write_out.ensures.err))

pub returns-clause-err : goal.returns-clause-err
returns-clause-err g c =
    let was = g.W.Write.contents c.args.writer.now in
    let mid = g.W.Write.contents c.write_out.new.writer in
    let now = g.W.Write.contents c.write_out-2.new.writer in
    let is : c.as_slice.result.now ≡ heading c.args.format c.args.number = c.as_slice.ensures.value ∙ c.in_ok-heading.ensures in
    failed_after c.write_out-2.result was mid now (heading c.args.format c.args.number) c.args.lines.now (rw is at c.in_ok-write_out.ensures.ok) c.write_out-2.ensures.err
