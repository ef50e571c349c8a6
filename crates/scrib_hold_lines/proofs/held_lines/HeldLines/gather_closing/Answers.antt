use Rattle.std.proofs.Common.{Option, IfSome, sym, subst}
use Rattle.std.proofs.lemmas.Result.{err_from_is_err_and}
use Rattle.scrib_hold.specs.HeldScripts.{Pending}
use Rattle.scrib_hold.specs.LetOutSoFar.{closing_items}
use Rattle.scrib_hold_lines.specs.Progress.{AreWrittenInPart}
use Rattle.scrib_hold_lines.proofs.held_lines.HeldLines.gather_closing.Goals as goal

pub returns-in_err-append_closed-clause-err : goal.returns-in_err-append_closed-clause-err
returns-in_err-append_closed-clause-err c =
    let p = err_from_is_err_and c.from_residual.result c.from_residual.ensures.1 in
    let m = c.args.self.now in
    rw p.1 (subst (λ (o : Option Pending). IfSome o (λ d. AreWrittenInPart (closing_items d m.released.items) m.output.items c.append_closed.new.output.items)) (sym c.in-Some.is) c.in_err-append_closed.ensures.err)
