use Rattle.std.proofs.Common.{Option, IfSome, sym, subst}
use Rattle.std.proofs.lemmas.Result.{err_from_is_err_and}
use Rattle.scrib_hold.specs.HeldScripts.{Pending}
use Rattle.scrib_hold.specs.NumberedItems.{numbered_closed}
use Rattle.scrib_hold.specs.Sinks.{FailsWithin}
use Rattle.scrib_hold.proofs.held_monitor.HeldMonitor.take_made.Goals as goal

pub returns-in_err-take_closed-clause-err : goal.returns-in_err-take_closed-clause-err
returns-in_err-take_closed-clause-err g c =
    let p = err_from_is_err_and c.from_residual.result c.from_residual.ensures.1 in
    let m = c.args.self.now in
    rw p.1 (subst (λ (o : Option Pending). IfSome o (λ d. FailsWithin g.S.ItemSink.carries g.S.ItemSink.gathered m.sink c.take_closed.new.sink (numbered_closed d m.released.items))) (sym c.in-Some.is) c.in_err-take_closed.ensures.err)
