use Rattle.std.proofs.Common.{◌+◌, List, refl, subst}
use Rattle.std.proofs.lemmas.Result.{err_from_is_err_and}
use Rattle.scrib_hold_stage.specs.declared.noted.Noted.{Noted}
use Rattle.scrib_hold_stage.specs.PendingClosings.{closings_in}
use Rattle.scrib_hold_stage.specs.Stages as stages
use Rattle.scrib_hold_stage.specs.Stages.{IsRead}
use Rattle.scrib_hold.specs.HeldScripts.{Asked, event_in, staged}
use Rattle.scrib_hold_lines.proofs.StageLemmas.{read_entry, unread, failed_passing, failed_released}
use Rattle.scrib_hold_lines.proofs.held_lines.HeldLines.read.Goals as goal

pub returns-in_err-passing-clause-err : goal.returns-in_err-passing-clause-err
returns-in_err-passing-clause-err c =
    let p = err_from_is_err_and c.from_residual.result c.from_residual.ensures.1 in
    rw p.1 (unread c.args.self.now _ c.args.entry refl)

pub returns-in_err-append_passing-clause-err : goal.returns-in_err-append_passing-clause-err
returns-in_err-append_passing-clause-err c =
    let p = err_from_is_err_and c.from_residual-in_err-append_passing.result c.from_residual-in_err-append_passing.ensures.1 in
    let read = subst (λ (l : List (Noted Asked)). IsRead event_in (staged (c.args.self.now.stage.time + 1) c.args.entry) (stages.stage_state c.args.self.now.stage) (stages.stage_state c.read_entry.new.stage) l c.read_entry.new.released.items)
    c.clear.ensures.items c.in_ok-passing.ensures.read in
    rw p.1 (failed_passing c.args.self.now _ c.args.entry (stages.stage_state c.read_entry.new.stage) c.read_entry.new.released.items (closings_in c.read_entry.new.pending) read c.in_ok-passing.ensures.closing c.in_ok-passing.passing c.args.line.now c.in_ok-passing.ensures.passed c.requires c.in_err-append_passing.ensures.err)

pub returns-in_err-append_released-clause-err : goal.returns-in_err-append_released-clause-err
returns-in_err-append_released-clause-err c =
    let p = err_from_is_err_and c.from_residual-in_err-append_released.result c.from_residual-in_err-append_released.ensures.1 in
    let read = subst (λ (l : List (Noted Asked)). IsRead event_in (staged (c.args.self.now.stage.time + 1) c.args.entry) (stages.stage_state c.args.self.now.stage) (stages.stage_state c.read_entry.new.stage) l c.read_entry.new.released.items)
    c.clear.ensures.items c.in_ok-passing.ensures.read in
    rw p.1 (failed_released c.args.self.now _ c.args.entry (stages.stage_state c.read_entry.new.stage) c.read_entry.new.released.items (closings_in c.read_entry.new.pending) read c.in_ok-passing.ensures.closing c.in_ok-passing.passing c.args.line.now c.append_passing.new.output.items c.in_ok-passing.ensures.passed c.requires
    c.in_ok-append_passing.ensures.ok c.in_err-append_released.ensures.err)

pub returns-clause-ok : goal.returns-clause-ok
returns-clause-ok c =
    let read = subst (λ (l : List (Noted Asked)). IsRead event_in (staged (c.args.self.now.stage.time + 1) c.args.entry) (stages.stage_state c.args.self.now.stage) (stages.stage_state c.read_entry.new.stage) l c.read_entry.new.released.items)
    c.clear.ensures.items c.in_ok-passing.ensures.read in
    read_entry c.args.self.now c.args.entry (stages.stage_state c.read_entry.new.stage) c.read_entry.new.released.items (closings_in c.read_entry.new.pending) read c.in_ok-passing.ensures.closing _ c.in_ok-passing.passing c.args.line.now c.append_passing.new.output.items c.in_ok-passing.ensures.passed c.requires refl refl
    c.stays_inside-inside.ensures c.in_ok-append_passing.ensures.ok c.in_ok-append_released.ensures.ok
