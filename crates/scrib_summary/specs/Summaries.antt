-- What the replies to a script come to (this project's own).
use Rattle.std.specs.Prelude.{Bool, true, false, List, [], ◌∷◌}
use Rattle.scrib_types.specs.declared.event.Told.{Told}
use Rattle.scrib_types.specs.declared.event.Told.TheVariants as tell
use Rattle.scrib_types.specs.declared.event.Verdict.{Verdict}
use Rattle.scrib_types.specs.declared.event.Verdict.TheVariants.{Permitted, Offence, Withdrawn}
use Rattle.scrib_core.specs.declared.reply.Reply.{Reply}
use Rattle.scrib_core.specs.declared.reply.Reply.TheVariants as reply
use Rattle.scrib_summary.specs.declared.summary.Summary.{Summary}
use Rattle.scrib_summary.specs.VerdictCounts as counts
use Rattle.scrib_summary.specs.VerdictCounts.{one_more}

-- what no reply comes to
abbrev pub no_replies : Summary
no_replies = record { opened = 0; events = 0; refused = 0; offended = false; verdicts = counts.no_counts }

-- the same with a verdict, which may be an offence
abbrev pub with_verdict : Verdict → Summary → Summary
with_verdict Permitted s = s
with_verdict (Offence place role allowed) s = record s { offended = true }
with_verdict Withdrawn s = s

-- the same with a verdict that may be stale
abbrev pub with_told : Told → Summary → Summary
with_told tell.Stale s = s
with_told (tell.Judged v) s = with_verdict v s

-- the same with one more event, and its verdict
abbrev pub with_event : Told → Summary → Summary
with_event told s = with_told told (record s { events = one_more s.events })

-- the same with one more conversation that was closed
abbrev pub with_closed : Verdict → (complete : Bool) → Summary → Summary
with_closed v complete s =
    with_verdict v (record s { verdicts = counts.with_complete complete (counts.with_verdict v s.verdicts) })

-- the same with one more refusal
abbrev pub with_refusal : Summary → Summary
with_refusal s = record s { refused = one_more s.refused }

-- the same with one more reply
abbrev pub with_reply : Reply → Summary → Summary
with_reply (reply.Opened id name) s = record s { opened = one_more s.opened }
with_reply (reply.Noted id place told) s = with_event told s
with_reply (reply.Judged id name events told) s = with_told told s
with_reply (reply.Closed id name events verdict complete) s = with_closed verdict complete s
with_reply (reply.Refused f) s = with_refusal s
with_reply _ s = s

-- the same with these replies, one after another
abbrev pub with_replies : List Reply → Summary → Summary
with_replies [] s = s
with_replies (r ∷ rs) s = with_replies rs (with_reply r s)
