-- Conversions into replies: a record's answer, and the outcome of a step (this project's own).
use Rattle.std.specs.Prelude.{◌≡◌, ℕ, List, Ok, Err, Result}
use Rattle.scrib_types.specs.declared.profile.Profile.{Profile}
use Rattle.scrib_types.specs.declared.event.Told.{Told}
use Rattle.scrib_types.specs.declared.event.Told.TheVariants as tell
use Rattle.scrib_types.specs.declared.event.Verdict.TheVariants.{Permitted, Offence, Withdrawn}
use Rattle.scrib_record.specs.declared.answer.Answer.{Answer}
use Rattle.scrib_record.specs.declared.answer.Answer.TheVariants as answer
use Rattle.scrib_record.specs.declared.fault.NoteFault.{NoteFault}
use Rattle.scrib_record.specs.declared.fault.NoteFault.TheVariants as note_fault
use Rattle.scrib_library.specs.declared.changes.Changes.{Changes}
use Rattle.scrib_library.specs.declared.fault.EditFault.{EditFault}
use Rattle.scrib_library.specs.declared.fault.EditFault.TheVariants as fault
use Rattle.scrib_core.specs.declared.conversation_steps.Noted.{Noted}
use Rattle.scrib_core.specs.declared.conversation_steps.Tested.{Tested}
use Rattle.scrib_core.specs.declared.conversation_steps.Judged.{Judged}
use Rattle.scrib_core.specs.declared.conversation_steps.Closed.{Closed}
use Rattle.scrib_core.specs.declared.reply.Edit.{Edit}
use Rattle.scrib_core.specs.declared.reply.Refusal.{Refusal}
use Rattle.scrib_core.specs.declared.reply.Refusal.TheVariants as refusal
use Rattle.scrib_core.specs.declared.reply.Reply.{Reply}
use Rattle.scrib_core.specs.declared.reply.Reply.TheVariants as reply

-- the answer of a record as a `Told`
abbrev pub told_of : Answer → Told
told_of answer.Stale = tell.Stale
told_of answer.Permitted = tell.Judged Permitted
told_of (answer.Offence place role allowed) = tell.Judged (Offence place role.now allowed.now)
told_of answer.Withdrawn = tell.Judged Withdrawn

-- the `Told` of a record's answer
abbrev pub IsVerdictOf : Answer → Told → Type 0
IsVerdictOf a t = t ≡ told_of a

-- an edit's fault as a refusal of its step; `OutOfMemory` is the step's own refusal
abbrev pub refusal_of : EditFault → Refusal
refusal_of (fault.Lex f) = refusal.Edit (fault.Lex f)
refusal_of (fault.Parse f) = refusal.Edit (fault.Parse f)
refusal_of fault.UnknownModule = refusal.Edit fault.UnknownModule
refusal_of fault.TooManyModules = refusal.Edit fault.TooManyModules
refusal_of (fault.StillImported by) = refusal.Edit (fault.StillImported by)
refusal_of (fault.ImportMissing m) = refusal.Edit (fault.ImportMissing m)
refusal_of fault.TooManyProtocols = refusal.Edit fault.TooManyProtocols
refusal_of (fault.Elaborate f) = refusal.Edit (fault.Elaborate f)
refusal_of (fault.Project u) = refusal.Edit (fault.Project u)
refusal_of fault.VersionsFull = refusal.Edit fault.VersionsFull
refusal_of (fault.NeedsReception name) = refusal.Edit (fault.NeedsReception name)
refusal_of fault.OutOfMemory = refusal.OutOfMemory

-- the refusal of a note of this fault
abbrev pub note_refusal : NoteFault → Refusal
note_refusal note_fault.LogFull = refusal.LogFull
note_refusal note_fault.OutOfMemory = refusal.OutOfMemory

-- the reply to an edit
abbrev pub edit_reply_of : Edit → Result Changes EditFault → Reply
edit_reply_of e (Ok changes) = reply.Edited e changes
edit_reply_of e (Err f) = reply.Refused (refusal_of f)

-- the reply to a change of the profile
abbrev pub profile_reply_of : Profile → Result (Unit {0}) EditFault → Reply
profile_reply_of p (Ok done) = reply.Profiled p
profile_reply_of p (Err f) = reply.Refused (refusal_of f)

-- the reply to an opening
abbrev pub open_reply_of : ℕ → Result (List (List ℕ)) Refusal → Reply
open_reply_of id (Ok name) = reply.Opened id name
open_reply_of id (Err f) = reply.Refused f

-- the reply to a note
abbrev pub note_reply_of : ℕ → Result Noted Refusal → Reply
note_reply_of id (Ok n) = reply.Noted id n.place n.told
note_reply_of id (Err f) = reply.Refused f

-- the reply to a note with a test
abbrev pub tested_reply_of : ℕ → Result Tested Refusal → Reply
tested_reply_of id (Ok t) = reply.Noted id t.noted.place t.noted.told
tested_reply_of id (Err f) = reply.Refused f

-- the reply to a turn or a question
abbrev pub verdict_reply_of : ℕ → Result Judged Refusal → Reply
verdict_reply_of id (Ok j) = reply.Judged id j.name j.events j.told
verdict_reply_of id (Err f) = reply.Refused f

-- the reply to a close
abbrev pub close_reply_of : ℕ → Result Closed Refusal → Reply
close_reply_of id (Ok c) = reply.Closed id c.name c.events c.verdict c.complete
close_reply_of id (Err f) = reply.Refused f
