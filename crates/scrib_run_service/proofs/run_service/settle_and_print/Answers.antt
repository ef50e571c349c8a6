use Rattle.std.proofs.Common.{ℕ, map, vec_len, Vec, Global, Result, subst}
use Rattle.std.specs.Prelude.{IfOk, OnOk}
use Rattle.std.specs.Io.KnownBytes.{Appends}
use Rattle.scrib_script_io.specs.declared.fault.ScriptFault.{ScriptFault}
use Rattle.scrib_run_service.specs.Outputs.{connections_text, IsRunTable}
use Rattle.scrib_run_service.proofs.ResultLemmas.{on_err_any}
use Rattle.scrib_run_service.proofs.OutputLemmas.{prints_none, prints_all, prints_cut}
use Rattle.scrib_run_service.proofs.run_service.settle_and_print.Goals as goal

pub returns-in_err-table-clause-err : goal.returns-in_err-table-clause-err
returns-in_err-table-clause-err g c =
    let u = c.args.unsettled in
    let was = g.W.Write.contents c.args.writer.now in
    let mid = g.W.Write.contents c.settle_beside-table.new.writer in
    on_err_any c.from_residual.result (prints_none u.format (map (λ v. v.items) c.args.texts.now) (vec_len u.service.shards) u.passes.items was mid mid c.settle_beside-table.result.1 c.settle_beside-table.ensures.written c.settle_beside-table.ensures.cut)

pub returns-in_err-written-clause-err : goal.returns-in_err-written-clause-err
returns-in_err-written-clause-err g c =
    let u = c.args.unsettled in
    let was = g.W.Write.contents c.args.writer.now in
    let mid = g.W.Write.contents c.settle_beside-table.new.writer in
    on_err_any c.from_residual-in_err-written.result (prints_none u.format (map (λ v. v.items) c.args.texts.now) (vec_len u.service.shards) u.passes.items was mid mid c.settle_beside-table.result.1 c.settle_beside-table.ensures.written c.settle_beside-table.ensures.cut)

pub returns-clause-ok : goal.returns-clause-ok
returns-clause-ok g c =
    let u = c.args.unsettled in
    let was = g.W.Write.contents c.args.writer.now in
    let mid = g.W.Write.contents c.settle_beside-table.new.writer in
    let now = g.W.Write.contents c.write_whole.new.writer in
    let texts = map (λ v. v.items) c.args.texts.now in
    let is = subst (λ (q : Result (Vec ℕ Global) ScriptFault). IfOk q (λ t. IsRunTable u.format (vec_len u.service.shards) u.passes.items t.items)) c.in_ok-table.was c.settle_beside-table.ensures.table in
    let wrote = subst (λ (q : Result (Unit {0}) ScriptFault). OnOk q (Appends was mid (connections_text u.format 1 texts))) c.in_ok-written.was c.settle_beside-table.ensures.written in
    prints_all u.format texts (vec_len u.service.shards) u.passes.items was mid now c.write_whole.result c.in_ok-table.table.items is wrote (rw c.as_slice.ensures.value at c.write_whole.ensures.ok)

pub returns-clause-err : goal.returns-clause-err
returns-clause-err g c =
    let u = c.args.unsettled in
    let was = g.W.Write.contents c.args.writer.now in
    let mid = g.W.Write.contents c.settle_beside-table.new.writer in
    let now = g.W.Write.contents c.write_whole.new.writer in
    let texts = map (λ v. v.items) c.args.texts.now in
    let is = subst (λ (q : Result (Vec ℕ Global) ScriptFault). IfOk q (λ t. IsRunTable u.format (vec_len u.service.shards) u.passes.items t.items)) c.in_ok-table.was c.settle_beside-table.ensures.table in
    let wrote = subst (λ (q : Result (Unit {0}) ScriptFault). OnOk q (Appends was mid (connections_text u.format 1 texts))) c.in_ok-written.was c.settle_beside-table.ensures.written in
    prints_cut u.format texts (vec_len u.service.shards) u.passes.items was mid now c.write_whole.result c.in_ok-table.table.items is wrote (rw c.as_slice.ensures.value at c.write_whole.ensures.err)
