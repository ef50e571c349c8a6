use Rattle.std.proofs.Common.{refl}
use Rattle.scrib_hold_stage.specs.PendingClosings.{IsNotReady}
use Rattle.scrib_hold_stage.specs.Stages.{stage_state}
use Rattle.scrib_hold_stage.proofs.FirstLemmas.{here_at, next_at}
use Rattle.scrib_hold_stage.proofs.closings.PendingClosings.first_ready.Goals as goal

pub returns-then-is_ready-clause-some : goal.returns-then-is_ready-clause-some
returns-then-is_ready-clause-some g c = record {
  x = c.in-Some.closing.now;
  at = here_at c.args.self.now.closings.items c.loop-closing.index c.in-Some.closing.now c.in-Some.ensures.item.3.0 c.in-Some.ensures.item.1;
  is = c.if-is_ready.ensures.yes refl;
  before = c.loop-closing.invariant.1;
}

pub loop-closing-preserved : goal.loop-closing-preserved
loop-closing-preserved g c =
    next_at (λ d. IsNotReady d (stage_state c.args.stage.now)) c.args.self.now.closings.items c.loop-closing.index c.in-Some.closing.now c.in-Some.ensures.item.3.0 c.in-Some.ensures.item.1
    c.loop-closing.invariant.1 (c.if-is_ready.ensures.no refl)
