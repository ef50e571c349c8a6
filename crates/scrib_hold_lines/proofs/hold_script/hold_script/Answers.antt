use Rattle.std.proofs.Common.{◌∙◌, ap}
use Rattle.std.proofs.lemmas.Result.{err_from_is_err_and}
use Rattle.scrib_script_io.specs.Faults.{of_script}
use Rattle.scrib_hold_lines.proofs.InputLemmas.{new_itself, flushed, flush_failed, ran_within, never_started, same_success, same_failure}
use Rattle.scrib_hold_lines.proofs.hold_script.hold_script.Goals as goal

pub run_by_pieces-requires-clause-new : goal.run_by_pieces-requires-clause-new
run_by_pieces-requires-clause-new g c = new_itself c.args.limits.script c.args.limits.bound c.new-run.result c.new-run.ensures

pub returns-in_err-piece-clause-err : goal.returns-in_err-piece-clause-err
returns-in_err-piece-clause-err g c =
    let p = err_from_is_err_and c.from_residual.result c.from_residual.ensures.1 in
    rw p.1 (never_started c.args.limits.bound (g.R.Read.remaining c.args.reader.now) (g.W.Write.contents c.args.writer.now))

pub returns-in_err-counts-clause-err : goal.returns-in_err-counts-clause-err
returns-in_err-counts-clause-err g c =
    let p = err_from_is_err_and c.from_residual-in_err-counts.result c.from_residual-in_err-counts.ensures.1 in
    rw p.1 (same_failure c.args.limits.script c.args.limits.bound c.new-run.result (g.R.Read.remaining c.args.reader.now) (g.W.Write.contents c.args.writer.now) (g.W.Write.contents c.run_by_pieces.new.writer) c.new-run.ensures c.in_err-counts.ensures.err)

pub returns-in_err-counts-clause-fault : goal.returns-in_err-counts-clause-fault
returns-in_err-counts-clause-fault g c =
    let p = err_from_is_err_and c.from_residual-in_err-counts.result c.from_residual-in_err-counts.ensures.1 in
    rw p.1 (ap of_script p.2 ∙ c.in_err-counts.ensures.fault)

pub returns-in_err-flush_out-clause-err : goal.returns-in_err-flush_out-clause-err
returns-in_err-flush_out-clause-err g c =
    let p = err_from_is_err_and c.from_residual-in_err-flush_out.result c.from_residual-in_err-flush_out.ensures.1 in
    let ran = same_success c.args.limits.script c.args.limits.bound c.new-run.result c.in_ok-counts.counts (g.R.Read.remaining c.args.reader.now) (g.W.Write.contents c.args.writer.now) (g.W.Write.contents c.run_by_pieces.new.writer) c.new-run.ensures c.in_ok-counts.ensures.ok in
    rw p.1 (flush_failed c.args.limits.script c.args.limits.bound (g.R.Read.remaining c.args.reader.now) c.in_ok-counts.counts (g.W.Write.contents c.args.writer.now) (g.W.Write.contents c.run_by_pieces.new.writer) (g.W.Write.contents c.flush_out.new.writer) ran c.flush_out.ensures.kept)

pub returns-clause-ok : goal.returns-clause-ok
returns-clause-ok g c =
    let ran = same_success c.args.limits.script c.args.limits.bound c.new-run.result c.in_ok-counts.counts (g.R.Read.remaining c.args.reader.now) (g.W.Write.contents c.args.writer.now) (g.W.Write.contents c.run_by_pieces.new.writer) c.new-run.ensures c.in_ok-counts.ensures.ok in
    flushed c.args.limits.script c.args.limits.bound (g.R.Read.remaining c.args.reader.now) c.in_ok-counts.counts (g.W.Write.contents c.args.writer.now) (g.W.Write.contents c.run_by_pieces.new.writer) (g.W.Write.contents c.flush_out.new.writer) ran c.flush_out.ensures.kept

pub returns-clause-within : goal.returns-clause-within
returns-clause-within g c =
    let ran = same_success c.args.limits.script c.args.limits.bound c.new-run.result c.in_ok-counts.counts (g.R.Read.remaining c.args.reader.now) (g.W.Write.contents c.args.writer.now) (g.W.Write.contents c.run_by_pieces.new.writer) c.new-run.ensures c.in_ok-counts.ensures.ok in
    ran_within c.args.limits.script c.args.limits.bound (g.R.Read.remaining c.args.reader.now) c.in_ok-counts.counts (g.W.Write.contents c.args.writer.now) (g.W.Write.contents c.run_by_pieces.new.writer) ran
