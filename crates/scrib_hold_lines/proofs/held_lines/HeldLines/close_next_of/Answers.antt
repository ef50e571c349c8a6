use Rattle.std.proofs.Common.{refl}
use Rattle.scrib_hold_stage.specs.PendingClosings.{IsOf, IsApart}
use Rattle.scrib_hold_lines.specs.declared.held_lines.HeldLines.{HeldLines}
use Rattle.scrib_hold_lines.proofs.ClosingLemmas.{closes_one, close_fails}
use Rattle.scrib_hold_lines.proofs.held_lines.HeldLines.close_next_of.Goals as goal

pub returns-clause-closed : goal.returns-clause-closed
returns-clause-closed c =
    let mid : HeldLines = record c.args.self.now { stage = c.close_of.new.stage; pending = c.close_of.new.self; released = c.close_of.new.released } in
    closes_one (IsOf c.args.id) (IsApart c.args.id) c.args.self.now mid c.gather_closing.new.self c.in_ok-made.made c.clear.new.self.items c.clear.ensures.items c.in_ok-made.ensures.made refl refl c.gather_closing.ensures.others
    c.gather_closing.result c.gather_closing.ensures.some c.gather_closing.ensures.ok

pub returns-clause-err : goal.returns-clause-err
returns-clause-err c =
    let mid : HeldLines = record c.args.self.now { stage = c.close_of.new.stage; pending = c.close_of.new.self; released = c.close_of.new.released } in
    close_fails (IsOf c.args.id) (IsApart c.args.id) c.args.self.now mid c.gather_closing.new.self c.in_ok-made.made c.clear.new.self.items c.clear.ensures.items c.in_ok-made.ensures.made refl refl c.gather_closing.ensures.others
    c.gather_closing.ensures.none c.gather_closing.result c.gather_closing.ensures.err
