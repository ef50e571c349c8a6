use Rattle.std.proofs.Common.{◌≡◌, ◌∙◌, ℕ, List, map, Vec, Global, sym, ap, subst}
use Rattle.std.specs.Prelude.{OnOk, OnErr}
use Rattle.std.proofs.lemmas.Result.{err_from_is_err_and}
use Rattle.scrib_script_io.specs.Faults.{of_script}
use Rattle.scrib_run_service.specs.ConnectionResults.{AreTexts}
use Rattle.scrib_run_service.specs.Outputs.{Prints, PrintsPart}
use Rattle.scrib_run_service.proofs.RunLemmas.{setup_cut, run_prints, run_cut, lines_split, never_read}
use Rattle.scrib_run_service.proofs.run_service.run_service.Goals as goal

pub returns-in_err-prepared-clause-err : goal.returns-in_err-prepared-clause-err
returns-in_err-prepared-clause-err g c =
    let p = err_from_is_err_and c.from_residual.result c.from_residual.ensures.1 in
    let h = c.in_err-prepared.ensures in
    rw p.1 (λ other. setup_cut c.args.options.now.format c.args.options.now.shape.shards (g.S.Read.remaining c.args.setup.now) (map (λ x. g.C.Read.remaining x) c.args.connections.items) (g.W.Write.contents c.args.writer.now) (g.W.Write.contents c.run_setup.new.writer) p.0
    (λ e. h.read (sym p.2 ∙ e)) (λ e. h.write (sym p.2 ∙ e)) (ap of_script p.2 ∙ h.fault) other)

pub returns-in_err-prepared-clause-read : goal.returns-in_err-prepared-clause-read
returns-in_err-prepared-clause-read g c =
    let p = err_from_is_err_and c.from_residual.result c.from_residual.ensures.1 in
    let h = c.in_err-prepared.ensures in
    rw p.1 (λ e. h.read (sym p.2 ∙ e))

pub returns-clause-ok : goal.returns-clause-ok
returns-clause-ok g c =
    let f = c.args.options.now.format in
    let was = g.W.Write.contents c.args.writer.now in
    let mid = g.W.Write.contents c.run_setup.new.writer in
    let now = g.W.Write.contents c.settle_and_print.new.writer in
    let readers = map (λ x. g.C.Read.remaining x) c.args.connections.items in
    let texts = map (λ (v : Vec ℕ Global). v.items) c.in_ok-passes.texts.items in
    let same : texts ≡ map (λ x. x.lines.items) c.in_ok-closed.closed.items = ap (map (λ (v : Vec ℕ Global). v.items)) c.in_ok-passes.ensures.texts ∙ lines_split c.in_ok-closed.closed.items in
    let are = subst (λ (ts : List (List ℕ)). AreTexts f readers ts) (sym same) c.in_ok-closed.ensures.texts in
    let printed = rw c.as_slice.ensures.value at c.settle_and_print.ensures.ok in
    let rest = subst (λ (n : ℕ). OnOk c.settle_and_print.result (Prints f texts n c.in_ok-passes.passes.items mid now)) (c.in-Ok.ensures.made ∙ c.shards.ensures.is) printed in
    run_prints f c.args.options.now.shape.shards (g.S.Read.remaining c.args.setup.now) readers was mid now texts c.in_ok-passes.passes.items c.settle_and_print.result c.in_ok-prepared.ensures.ok are rest

pub returns-clause-err : goal.returns-clause-err
returns-clause-err g c =
    let f = c.args.options.now.format in
    let was = g.W.Write.contents c.args.writer.now in
    let mid = g.W.Write.contents c.run_setup.new.writer in
    let now = g.W.Write.contents c.settle_and_print.new.writer in
    let readers = map (λ x. g.C.Read.remaining x) c.args.connections.items in
    let texts = map (λ (v : Vec ℕ Global). v.items) c.in_ok-passes.texts.items in
    let same : texts ≡ map (λ x. x.lines.items) c.in_ok-closed.closed.items = ap (map (λ (v : Vec ℕ Global). v.items)) c.in_ok-passes.ensures.texts ∙ lines_split c.in_ok-closed.closed.items in
    let are = subst (λ (ts : List (List ℕ)). AreTexts f readers ts) (sym same) c.in_ok-closed.ensures.texts in
    let printed = rw c.as_slice.ensures.value at c.settle_and_print.ensures.err in
    let rest = subst (λ (n : ℕ). OnErr c.settle_and_print.result (PrintsPart f texts n c.in_ok-passes.passes.items mid now)) (c.in-Ok.ensures.made ∙ c.shards.ensures.is) printed in
    run_cut f c.args.options.now.shape.shards (g.S.Read.remaining c.args.setup.now) readers was mid now texts c.in_ok-passes.passes.items c.settle_and_print.result c.in_ok-prepared.ensures.ok are rest

pub returns-clause-read : goal.returns-clause-read
returns-clause-read g c = never_read _ c.settle_and_print.result c.settle_and_print.ensures.fault
