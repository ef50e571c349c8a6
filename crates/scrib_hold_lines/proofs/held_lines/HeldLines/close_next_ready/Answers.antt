use Rattle.std.proofs.Common.{refl}
use Rattle.scrib_hold_stage.specs.PendingClosings.{IsReady, IsNotReady}
use Rattle.scrib_hold_stage.specs.Stages as stages
use Rattle.scrib_hold_lines.specs.declared.held_lines.HeldLines.{HeldLines}
use Rattle.scrib_hold_lines.proofs.ClosingLemmas.{closes_one, close_fails}
use Rattle.scrib_hold_lines.proofs.held_lines.HeldLines.close_next_ready.Goals as goal

pub returns-clause-closed : goal.returns-clause-closed
returns-clause-closed c =
    let mid : HeldLines = record c.args.self.now { stage = c.close_ready.new.stage; pending = c.close_ready.new.self; released = c.close_ready.new.released } in
    closes_one (λ d. IsReady d (stages.stage_state c.args.self.now.stage)) (λ d. IsNotReady d (stages.stage_state c.args.self.now.stage)) c.args.self.now mid c.gather_closing.new.self c.in_ok-made.made c.clear.new.self.items c.clear.ensures.items c.in_ok-made.ensures.made refl refl c.gather_closing.ensures.others
    c.gather_closing.result c.gather_closing.ensures.some c.gather_closing.ensures.ok

pub returns-clause-err : goal.returns-clause-err
returns-clause-err c =
    let mid : HeldLines = record c.args.self.now { stage = c.close_ready.new.stage; pending = c.close_ready.new.self; released = c.close_ready.new.released } in
    close_fails (λ d. IsReady d (stages.stage_state c.args.self.now.stage)) (λ d. IsNotReady d (stages.stage_state c.args.self.now.stage)) c.args.self.now mid c.gather_closing.new.self c.in_ok-made.made c.clear.new.self.items c.clear.ensures.items c.in_ok-made.ensures.made refl refl c.gather_closing.ensures.others
    c.gather_closing.ensures.none c.gather_closing.result c.gather_closing.ensures.err
