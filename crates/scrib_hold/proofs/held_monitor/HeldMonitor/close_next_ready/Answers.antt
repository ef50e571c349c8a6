use Rattle.std.proofs.Common.{refl}
use Rattle.scrib_hold_stage.specs.PendingClosings.{IsReady, IsNotReady}
use Rattle.scrib_hold_stage.specs.Stages as stages
use Rattle.scrib_hold.specs.declared.held_monitor.HeldMonitor.{HeldMonitor}
use Rattle.scrib_hold.proofs.ClosingLemmas.{closes_one, close_fails}
use Rattle.scrib_hold.proofs.held_monitor.HeldMonitor.close_next_ready.Goals as goal

pub returns-clause-closed : goal.returns-clause-closed
returns-clause-closed g c =
    let mid : HeldMonitor g.row.S.Denot = record c.args.self.now { stage = c.close_ready.new.stage; pending = c.close_ready.new.self; released = c.close_ready.new.released } in
    closes_one g.S.ItemSink.carries g.S.ItemSink.gathered (λ d. IsReady d (stages.stage_state c.args.self.now.stage)) (λ d. IsNotReady d (stages.stage_state c.args.self.now.stage)) c.args.self.now mid c.take_made.new.self c.in_ok-made.made c.clear.new.self.items c.clear.ensures.items c.in_ok-made.ensures.made refl refl c.take_made.ensures.others
    c.take_made.result c.take_made.ensures.some c.take_made.ensures.ok

pub returns-clause-err : goal.returns-clause-err
returns-clause-err g c =
    let mid : HeldMonitor g.row.S.Denot = record c.args.self.now { stage = c.close_ready.new.stage; pending = c.close_ready.new.self; released = c.close_ready.new.released } in
    close_fails g.S.ItemSink.carries g.S.ItemSink.gathered (λ d. IsReady d (stages.stage_state c.args.self.now.stage)) (λ d. IsNotReady d (stages.stage_state c.args.self.now.stage)) c.args.self.now mid c.take_made.new.self c.in_ok-made.made c.clear.new.self.items c.clear.ensures.items c.in_ok-made.ensures.made refl refl c.take_made.ensures.others
    c.take_made.ensures.none c.take_made.result c.take_made.ensures.err
