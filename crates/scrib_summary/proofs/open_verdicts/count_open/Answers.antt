use Rattle.std.proofs.Common.{sym, ◌∙◌}
use Rattle.std.specs.Map.{keys_of}
use Rattle.scrib_core.specs.Held.{state_of}
use Rattle.scrib_summary.specs.VerdictCounts.{CountsVerdicts}
use Rattle.scrib_summary.proofs.OpenVerdictLemmas.{counts_next, has_key}
use Rattle.scrib_summary.proofs.open_verdicts.count_open.Goals as goal

pub loop-index-init : goal.loop-index-init
loop-index-init c = CountsVerdicts.no_conversation c.args.counts.now

pub unreachable-requires : goal.unreachable-requires
unreachable-requires c =
    has_key (state_of c.args.core.now).world.conversations c.loop-index.index
    (rw (sym c.open_count-index-end.ensures) c.loop-index-test.true)
    (sym c.conversation_at.ensures ∙ c.in_default.is)

pub loop-index-preserved : goal.loop-index-preserved
loop-index-preserved c =
    rw c.count.ensures
    (counts_next (state_of c.args.core.now) (keys_of (state_of c.args.core.now).world.conversations) c.loop-index.index
    c.in-Some.id c.args.counts.now c.loop-index.counts c.in_ok-told.told c.is_complete.result
    (sym c.conversation_at.ensures ∙ c.in-Some.is) c.loop-index.invariant
    c.in_ok-told.ensures c.is_complete.ensures)
