use Rattle.std.proofs.Common.{ℕ, ◌+◌, List, ◌++◌, map, drop, subst, sym, ap}
use Rattle.std.specs.Io.KnownBytes.{Appends}
use Rattle.scrib_script_io.specs.Writes.{AppendsPart}
use Rattle.scrib_report.specs.ReplyTexts.{heading}
use Rattle.scrib_run_service.specs.Outputs.{connections_text}
use Rattle.scrib_run_service.proofs.ResultLemmas.{on_err_any}
use Rattle.scrib_script_io.proofs.WriterLemmas.{appends_more}
use Rattle.scrib_run_service.proofs.PartialWriteLemmas.{part_before, part_after, texts_at}
use Rattle.scrib_run_service.proofs.run_service.write_connections.Goals as goal

pub returns-in_err-write_connection-clause-err : goal.returns-in_err-write_connection-clause-err
returns-in_err-write_connection-clause-err g c =
    let was = g.W.Write.contents c.loop-lines.writer in
    let now = g.W.Write.contents c.write_connection.new.writer in
    let v = c.lines-item.result in
    let n = c.loop-lines.number + 1 in
    let more = map (λ w. w.items) (drop (c.loop-lines.lines-index + 1) c.args.texts.now) in
    let front = texts_at c.args.texts.now c.loop-lines.lines-index v c.loop-lines-test.true c.lines-item.is in
    let part = part_before was now (heading c.args.format n ++ v.items) (connections_text c.args.format (n + 1) more) (rw c.as_slice.ensures.value at c.in_err-write_connection.ensures.err) in
    on_err_any c.from_residual.result (c.loop-lines.invariant.part now (subst (λ (ls : List (List ℕ)). AppendsPart was now (connections_text c.args.format n ls)) (sym front) part))

pub loop-lines-preserved : goal.loop-lines-preserved
loop-lines-preserved g c =
    let was = g.W.Write.contents c.loop-lines.writer in
    let mid = g.W.Write.contents c.write_connection.new.writer in
    let v = c.lines-item.result in
    let n = c.loop-lines.number + 1 in
    let more = map (λ w. w.items) (drop (c.loop-lines.lines-index + 1) c.args.texts.now) in
    let front = texts_at c.args.texts.now c.loop-lines.lines-index v c.loop-lines-test.true c.lines-item.is in
    let wrote = rw c.as_slice.ensures.value at c.in_ok-write_connection.ensures.ok in
    record {
      counted = ap (λ (k : ℕ). k + 1) c.loop-lines.invariant.counted;
      all = λ now h. c.loop-lines.invariant.all now (subst (λ (ls : List (List ℕ)). Appends was now (connections_text c.args.format n ls)) (sym front) (appends_more was mid now (heading c.args.format n ++ v.items) (connections_text c.args.format (n + 1) more) wrote h));
      part = λ now h. c.loop-lines.invariant.part now (subst (λ (ls : List (List ℕ)). AppendsPart was now (connections_text c.args.format n ls)) (sym front) (part_after was mid now (heading c.args.format n ++ v.items) (connections_text c.args.format (n + 1) more) wrote h));
    }
