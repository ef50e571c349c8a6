use Rattle.std.proofs.Common.{◌∙◌, ap}
use Rattle.scrib_core.specs.Held.{state_of}
use Rattle.scrib_hold.specs.declared.replies.Replies.{Replies}
use Rattle.scrib_hold.proofs.HeldRunLemmas.{is_new}
use Rattle.scrib_hold.proofs.RepliesLemmas.{given_none}
use Rattle.scrib_hold.proofs.held_run.HeldRun.new.Goals as goal

pub returns : goal.returns
returns c =
    let sink = c.new-2.ensures.sink in
    is_new c.args.format c.args.bound c.args.limits _ c.with_limits.ensures.holds c.with_limits.ensures.lines c.with_limits.ensures.bytes c.with_limits.ensures.limits
    (given_none c.args.format c.args.bound _ c.new-2.ensures.taken (ap (λ (s : Replies). s.format) sink ∙ c.new.ensures.format) (ap (λ (s : Replies). state_of s.core) sink ∙ c.new.ensures.initial))
