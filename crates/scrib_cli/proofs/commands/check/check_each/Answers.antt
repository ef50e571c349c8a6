use Rattle.std.proofs.Common.{◌≡◌, ◌+◌, ℕ, List, [], Bool, true, ◌&&◌, drop, get_or, sym, subst}
use Rattle.std.specs.Borrow.{Bor}
use Rattle.std.proofs.lemmas.List.{drop_more, at_drop_all}
use Rattle.scrib_core.specs.Held.{state_of}
use Rattle.scrib_cli.specs.Checks.{IsChecked, IsPartChecked}
use Rattle.scrib_cli.specs.Commands.{AreChecked}
use Rattle.scrib_cli.proofs.Results.{on_err_any}
use Rattle.scrib_cli.proofs.FileLemmas.{known, and_true, agree_refused, agree_accepted, then_checked, then_part, none_checked, part_checked_next, end_checked}
use Rattle.scrib_cli.proofs.commands.check.check_each.Goals.{then-not-branch, else-not-branch}
use Rattle.scrib_cli.proofs.commands.check.check_each.Goals as goal

pub returns-in_err-file-clause-err : goal.returns-in_err-file-clause-err
returns-in_err-file-clause-err g c =
    on_err_any c.from_residual.result (c.loop-path.invariant.part (g.W.Write.contents c.loop-path.writer) (none_checked (g.F.Folder.text c.args.folder.now) (drop c.loop-path.path-index c.args.paths.now) (state_of c.loop-path.core) (g.W.Write.contents c.loop-path.writer)))

pub returns-in_err-check_file-clause-err : goal.returns-in_err-check_file-clause-err
returns-in_err-check_file-clause-err g c =
    let text = g.F.Folder.text c.args.folder.now in
    let here : Bor (List ℕ) = record { ref_ptr = (0, 0); now = [] } in
    let p : Bor (List ℕ) = get_or c.args.paths.now c.loop-path.path-index here in
    let front = drop_more c.args.paths.now c.loop-path.path-index here c.loop-path-test.true in
    let was = g.W.Write.contents c.loop-path.writer in
    let now = g.W.Write.contents c.check_file.new.writer in
    let h = known (λ input. IsPartChecked input (state_of c.loop-path.core) (state_of c.check_file.new.core) was now) (text p.now) (g.F.File.Read.remaining c.in_ok-file.file) c.in_ok-file.ensures.text c.in_err-check_file.ensures.err in
    on_err_any c.from_residual-in_err-check_file.result
    (c.loop-path.invariant.part now (part_checked_next text p (drop (c.loop-path.path-index + 1) c.args.paths.now) (drop c.loop-path.path-index c.args.paths.now) front (state_of c.loop-path.core) (state_of c.check_file.new.core) was now h))

pub loop-path-preserved : goal.loop-path-preserved
loop-path-preserved g c =
    let text = g.F.Folder.text c.args.folder.now in
    let here : Bor (List ℕ) = record { ref_ptr = (0, 0); now = [] } in
    let p : Bor (List ℕ) = get_or c.args.paths.now c.loop-path.path-index here in
    let left = drop c.loop-path.path-index c.args.paths.now in
    let ps = drop (c.loop-path.path-index + 1) c.args.paths.now in
    let front = drop_more c.args.paths.now c.loop-path.path-index here c.loop-path-test.true in
    let was = g.W.Write.contents c.loop-path.writer in
    let mid = g.W.Write.contents c.check_file.new.writer in
    let w = state_of c.loop-path.core in
    let v = state_of c.check_file.new.core in
    let first : Bool = c.in_ok-check_file.field-0 in
    let h = known (λ input. IsChecked input w first v was mid) (text p.now) (g.F.File.Read.remaining c.in_ok-file.file) c.in_ok-file.ensures.text c.in_ok-check_file.ensures.ok in
    let same : (others : Bool) → (c.loop-path.accepted && (first && others)) ≡ (c.if-not-branch.accepted && others) =
    elim c.if-not-branch.branch [
      | then-not-branch b ↦ agree_refused c.loop-path.accepted first c.if-not-branch.accepted b.if-not-branch.true b.accepted-is
      | else-not-branch b ↦ agree_accepted c.loop-path.accepted first c.if-not-branch.accepted b.if-not-branch.false b.accepted-is
    ]
    in
    record {
      checked = λ others after now k. subst (λ (b : Bool). AreChecked text c.args.paths.now (state_of c.args.core.now) b after (g.W.Write.contents c.args.writer.now) now) (same others) (c.loop-path.invariant.checked (first && others) after now (then_checked text p ps left front w v after first others was mid now h k));
      part = λ now k. c.loop-path.invariant.part now (then_part text p ps left front w v first was mid now h k);
    }

pub returns-clause-ok : goal.returns-clause-ok
returns-clause-ok g c =
    let text = g.F.Folder.text c.args.folder.now in
    let v = state_of c.loop-path.core in
    let now = g.W.Write.contents c.loop-path.writer in
    let at_end = end_checked text (drop c.loop-path.path-index c.args.paths.now) (at_drop_all (λ l. l) c.args.paths.now c.loop-path.path-index c.loop-path-test.false) v now in
    (v, subst (λ (b : Bool). AreChecked text c.args.paths.now (state_of c.args.core.now) b v (g.W.Write.contents c.args.writer.now) now) (sym (and_true c.loop-path.accepted)) (c.loop-path.invariant.checked true v now at_end))
