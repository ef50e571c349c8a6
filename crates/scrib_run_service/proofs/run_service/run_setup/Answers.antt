use Rattle.std.proofs.Common.{◌≡◌, ◌∙◌, ℕ, Vec, Global, Result, sym, ap, subst}
use Rattle.std.specs.Prelude.{IfErr, OnOk}
use Rattle.std.proofs.lemmas.Result.{err_from_is_err_and}
use Rattle.scrib_script_io.specs.declared.fault.ScriptFault.{ScriptFault}
use Rattle.scrib_script_io.specs.declared.fault.ScriptFault.TheVariants as fault
use Rattle.scrib_run_service.specs.Outputs.{WritesAll, WritesFirst, WritesPart}
use Rattle.scrib_run_service.proofs.RunLemmas.{ScriptEnds, script_ends, transcript_on, first_on}
use Rattle.scrib_run_service.proofs.run_service.run_setup.Goals as goal
use Rattle.scrib_run_service.proofs.run_service.run_setup.Goals.{After-first_fault}
use Rattle.scrib_run_service.proofs.run_service.run_setup.Given as given

-- how the setup ended
ends : (g : given.Over) (c : After-first_fault g) → ScriptEnds c.args.common.now.format (g.S.Read.remaining c.args.setup.now) (g.W.Write.contents c.args.writer.now) (g.W.Write.contents c.write_whole-written.new.writer) c.first_fault.result
ends g c =
    let f = c.args.common.now.format in
    let r = g.S.Read.remaining c.args.setup.now in
    let was = g.W.Write.contents c.args.writer.now in
    let now = g.W.Write.contents c.write_whole-written.new.writer in
    let a = c.new-connection.result in
    let b = c.run_script-ran.new.connection in
    let is : c.as_slice.result.now ≡ b.lines.items = c.as_slice.ensures.value ∙ ap (λ (v : Vec ℕ Global). v.items) c.in_ok-closed.ensures.lines in
    let so = script_ends f r was now b.lines.items c.run_script-ran.result c.write_whole-written.result
    (transcript_on f r a b c.new-connection.ensures.lines c.new-connection.ensures.format c.run_script-ran.result c.run_script-ran.ensures.ok)
    (first_on f r a b c.new-connection.ensures.lines c.new-connection.ensures.format c.run_script-ran.result c.run_script-ran.ensures.read)
    c.run_script-ran.ensures.fault (rw is at c.write_whole-written.ensures.ok) (rw is at c.write_whole-written.ensures.err) c.write_whole-written.ensures.fault in
    subst (λ (x : Result (Unit {0}) ScriptFault). ScriptEnds f r was now x) (sym c.first_fault.ensures) so

pub returns-in_err-first_fault-clause-read : goal.returns-in_err-first_fault-clause-read
returns-in_err-first_fault-clause-read g c =
    let p = err_from_is_err_and c.from_residual-in_err-first_fault.result c.from_residual-in_err-first_fault.ensures.1 in
    let h = subst (λ (x : Result (Unit {0}) ScriptFault). IfErr x (λ e. e ≡ fault.Read → WritesFirst c.args.common.now.format (g.S.Read.remaining c.args.setup.now) (g.W.Write.contents c.args.writer.now) (g.W.Write.contents c.write_whole-written.new.writer))) c.in_err-first_fault.was (ends g (goal.at.returns-in_err-first_fault-clause-read g c).After-first_fault).read in
    rw p.1 (λ e. h (sym p.2 ∙ e))

pub returns-in_err-first_fault-clause-write : goal.returns-in_err-first_fault-clause-write
returns-in_err-first_fault-clause-write g c =
    let p = err_from_is_err_and c.from_residual-in_err-first_fault.result c.from_residual-in_err-first_fault.ensures.1 in
    let h = subst (λ (x : Result (Unit {0}) ScriptFault). IfErr x (λ e. e ≡ fault.Write → WritesPart c.args.common.now.format (g.S.Read.remaining c.args.setup.now) (g.W.Write.contents c.args.writer.now) (g.W.Write.contents c.write_whole-written.new.writer))) c.in_err-first_fault.was (ends g (goal.at.returns-in_err-first_fault-clause-write g c).After-first_fault).write in
    rw p.1 (λ e. h (sym p.2 ∙ e))

pub returns-clause-ok : goal.returns-clause-ok
returns-clause-ok g c =
    subst (λ (x : Result (Unit {0}) ScriptFault). OnOk x (WritesAll c.args.common.now.format (g.S.Read.remaining c.args.setup.now) (g.W.Write.contents c.args.writer.now) (g.W.Write.contents c.write_whole-written.new.writer))) c.in_ok-first_fault.was (ends g (goal.at.returns-clause-ok g c).After-first_fault).ok
