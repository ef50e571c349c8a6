use Rattle.std.proofs.Common.{◌<◌, Some, None, length, take, subst, arith}
use Rattle.scrib_locked_steps.specs.Receipts.{IsFirstMismatch}
use Rattle.scrib_locked_steps.specs.Closing.{log_for}
use Rattle.scrib_locked_steps.proofs.MismatchLemmas.{take_one}
use Rattle.scrib_locked_steps.proofs.ClosingLemmas.{agrees_more, differs_more}
use Rattle.scrib_locked_steps.proofs.close_calls.least_mismatch.Goals as goal
use Rattle.scrib_locked_steps.proofs.close_calls.least_mismatch.Goals.{in-Some, in_default}

pub loop-pass-preserved : goal.loop-pass-preserved
loop-pass-preserved c =
    let s = c.args.shard.now in
    let p = c.pass-item.result in
    let i = c.loop-pass.pass-index in
    let ps = take i c.args.passes.now in
    let within : i < length c.args.passes.now = omega arith in
    rw (take_one c.args.passes.now i p within c.pass-item.is) (elim c.match-mismatch_of.branch [
      | in-Some w ↦
          (let first : IsFirstMismatch (log_for s p) p.receipts (Some w.in-Some.place) = subst (IsFirstMismatch (log_for s p) p.receipts) w.in-Some.is c.mismatch_of.ensures in
          rw (w.least-is, w.min_place.ensures) (differs_more s ps p w.in-Some.place c.loop-pass.least c.loop-pass.invariant first.0 first.1))
      | in_default w ↦
          (let all : IsFirstMismatch (log_for s p) p.receipts None = subst (IsFirstMismatch (log_for s p) p.receipts) w.in_default.is c.mismatch_of.ensures in
          rw w.least-is (agrees_more s ps p c.loop-pass.least c.loop-pass.invariant all))
    ])
