use Rattle.std.proofs.Common.{ℕ, List, subst}
use Rattle.std.specs.Io.KnownBytes.{Appends}
use Rattle.std.proofs.lemmas.Result.{err_from_is_err_and}
use Rattle.scrib_script_io.specs.Writes.{AppendsPart}
use Rattle.scrib_script_reader.specs.Limits.{of_scripts}
use Rattle.scrib_show.proofs.ShownLemmas.{shown_all, shown_part, shown_unflushed, shown_within}
use Rattle.scrib_show.proofs.show_script.show_script.Goals as goal

pub returns-in_err-write_out-clause-err : goal.returns-in_err-write_out-clause-err
returns-in_err-write_out-clause-err g c =
    let p = err_from_is_err_and c.from_residual-in_err-write_out.result c.from_residual-in_err-write_out.ensures.1 in
    let part = subst (λ (t : List ℕ). AppendsPart (g.W.Write.contents c.args.writer.now) (g.W.Write.contents c.write_out.new.writer) t) c.as_slice.ensures.value c.in_err-write_out.ensures.err in
    rw p.1 (shown_part c.args.form of_scripts c.args.id (g.R.Read.remaining c.args.reader.now) c.in_ok-monitor.monitor c.in_ok-monitor.ensures.ok c.in_ok-shown.shown c.in_ok-shown.text.items c.in_ok-shown.ensures.shown
    (g.W.Write.contents c.args.writer.now) (g.W.Write.contents c.write_out.new.writer) part)

pub returns-clause-ok : goal.returns-clause-ok
returns-clause-ok g c =
    let all = subst (λ (t : List ℕ). Appends (g.W.Write.contents c.args.writer.now) (g.W.Write.contents c.write_out.new.writer) t) c.as_slice.ensures.value c.in_ok-write_out.ensures.ok in
    shown_all c.args.form of_scripts c.args.id (g.R.Read.remaining c.args.reader.now) c.in_ok-monitor.monitor c.in_ok-monitor.ensures.ok c.in_ok-shown.shown c.in_ok-shown.text.items c.in_ok-shown.ensures.shown
    (g.W.Write.contents c.args.writer.now) (g.W.Write.contents c.write_out.new.writer) (g.W.Write.contents c.flush_out.new.writer) all c.flush_out.ensures.kept

pub returns-in_err-flush_out-clause-err : goal.returns-in_err-flush_out-clause-err
returns-in_err-flush_out-clause-err g c =
    let p = err_from_is_err_and c.from_residual-in_err-flush_out.result c.from_residual-in_err-flush_out.ensures.1 in
    let all = subst (λ (t : List ℕ). Appends (g.W.Write.contents c.args.writer.now) (g.W.Write.contents c.write_out.new.writer) t) c.as_slice.ensures.value c.in_ok-write_out.ensures.ok in
    rw p.1 (shown_unflushed c.args.form of_scripts c.args.id (g.R.Read.remaining c.args.reader.now) c.in_ok-monitor.monitor c.in_ok-monitor.ensures.ok c.in_ok-shown.shown c.in_ok-shown.text.items c.in_ok-shown.ensures.shown
    (g.W.Write.contents c.args.writer.now) (g.W.Write.contents c.write_out.new.writer) (g.W.Write.contents c.flush_out.new.writer) all c.flush_out.ensures.kept)

pub returns-clause-within : goal.returns-clause-within
returns-clause-within g c =
    shown_within c.args.form of_scripts c.args.id (g.R.Read.remaining c.args.reader.now) c.in_ok-monitor.monitor c.in_ok-monitor.ensures.ok c.in_ok-shown.shown c.in_ok-shown.text.items c.in_ok-shown.ensures.shown
