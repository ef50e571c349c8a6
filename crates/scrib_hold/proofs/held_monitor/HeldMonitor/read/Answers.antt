use Rattle.std.proofs.Common.{◌+◌, List, refl, subst}
use Rattle.std.proofs.lemmas.Result.{err_from_is_err_and}
use Rattle.scrib_hold_stage.specs.declared.noted.Noted.{Noted}
use Rattle.scrib_hold_stage.specs.PendingClosings.{closings_in}
use Rattle.scrib_hold_stage.specs.Stages as stages
use Rattle.scrib_hold_stage.specs.Stages.{IsRead}
use Rattle.scrib_hold.specs.HeldScripts.{Asked, event_in, staged}
use Rattle.scrib_hold.proofs.MonitorLemmas.{read_entry, unread, failed_entry}
use Rattle.scrib_hold.proofs.held_monitor.HeldMonitor.read.Goals as goal

pub returns-in_default-clause-err : goal.returns-in_default-clause-err
returns-in_default-clause-err g c = unread g.S.ItemSink.carries g.S.ItemSink.gathered c.args.self.now c.args.self.now c.args.entry refl

pub returns-in_err-passing-clause-err : goal.returns-in_err-passing-clause-err
returns-in_err-passing-clause-err g c =
    let p = err_from_is_err_and c.from_residual.result c.from_residual.ensures.1 in
    rw p.1 (unread g.S.ItemSink.carries g.S.ItemSink.gathered c.args.self.now _ c.args.entry refl)

pub returns-in_err-take_let_out-clause-err : goal.returns-in_err-take_let_out-clause-err
returns-in_err-take_let_out-clause-err g c =
    let p = err_from_is_err_and c.from_residual-in_err-take_let_out.result c.from_residual-in_err-take_let_out.ensures.1 in
    let read = subst (λ (l : List (Noted Asked)). IsRead event_in (staged (c.args.self.now.stage.time + 1) c.args.entry) (stages.stage_state c.args.self.now.stage) (stages.stage_state c.read_entry.new.stage) l c.read_entry.new.released.items)
    c.clear.ensures.items c.in_ok-passing.ensures.read in
    rw p.1 (failed_entry g.S.ItemSink.carries g.S.ItemSink.gathered c.args.self.now c.args.entry (stages.stage_state c.read_entry.new.stage) c.read_entry.new.released.items (closings_in c.read_entry.new.pending) read c.in_ok-passing.ensures.closing _ c.in-Some.number c.in_ok-passing.passing c.in-Some.ensures c.in_ok-passing.ensures.passed c.in_err-take_let_out.ensures.err)

pub returns-clause-ok : goal.returns-clause-ok
returns-clause-ok g c =
    let read = subst (λ (l : List (Noted Asked)). IsRead event_in (staged (c.args.self.now.stage.time + 1) c.args.entry) (stages.stage_state c.args.self.now.stage) (stages.stage_state c.read_entry.new.stage) l c.read_entry.new.released.items)
    c.clear.ensures.items c.in_ok-passing.ensures.read in
    read_entry g.S.ItemSink.carries g.S.ItemSink.gathered c.args.self.now c.args.entry (stages.stage_state c.read_entry.new.stage) c.read_entry.new.released.items (closings_in c.read_entry.new.pending) read c.in_ok-passing.ensures.closing _ c.in-Some.number c.in_ok-passing.passing c.in-Some.ensures c.in_ok-passing.ensures.passed
    refl refl
    c.stays_inside-inside.ensures c.in_ok-take_let_out.ensures.ok
