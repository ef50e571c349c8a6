-- The replies of a service to a connection, and their text (this project's own).
use Rattle.std.specs.Prelude.{ℕ, Bool, true, false, List, [], ◌∷◌, Result, Ok, Err}
use Rattle.scrib_types.specs.declared.event.Told.{Told}
use Rattle.scrib_types.specs.declared.profile.Profile.{Profile}
use Rattle.scrib_library.specs.declared.changes.Change.{Change}
use Rattle.scrib_library.specs.declared.changes.Changes.{Changes}
use Rattle.scrib_library.specs.declared.fault.EditFault.{EditFault}
use Rattle.scrib_core.specs.declared.reply.Edit.{Edit}
use Rattle.scrib_core.specs.declared.reply.Refusal.{Refusal}
use Rattle.scrib_core.specs.declared.reply.Refusal.TheVariants as refusal
use Rattle.scrib_core.specs.declared.reply.Reply.TheVariants as reply
use Rattle.scrib_locked_steps.specs.declared.pass_calls.PassRefusal.{PassRefusal}
use Rattle.scrib_locked_steps.specs.declared.pass_calls.PassRefusal.TheVariants as pass
use Rattle.scrib_core.specs.declared.conversation_steps.Noted.{Noted}
use Rattle.scrib_report.specs.Parts.{Part, reply_part, judged_part, mismatch_part}
use Rattle.scrib_core.specs.declared.format.Format.{Format}
use Rattle.scrib_report.specs.ReplyTexts.{part_text}
use Rattle.scrib_client.specs.declared.service_reply.ServiceReply.{ServiceReply}
use Rattle.scrib_client.specs.declared.service_reply.ServiceReply.TheVariants as service_reply

-- the reply to a refused call by a pass
abbrev pub refusal_reply : PassRefusal → ServiceReply
refusal_reply (pass.Mismatch c place) = service_reply.Mismatch c place
refusal_reply (pass.Step f) = service_reply.Reply (reply.Refused f)

-- the reply to a note in the conversation
abbrev pub noted_reply : ℕ → Result Noted PassRefusal → ServiceReply
noted_reply id (Ok noted) = service_reply.Reply (reply.Noted id noted.place noted.told)
noted_reply id (Err f) = refusal_reply f

-- the reply to a turn in the conversation
abbrev pub turn_reply : ℕ → Result Told Refusal → ServiceReply
turn_reply id (Ok verdict) = service_reply.Judged id verdict
turn_reply id (Err f) = service_reply.Reply (reply.Refused f)

-- the reply to a question by a pass
abbrev pub ask_reply : ℕ → Result Told PassRefusal → ServiceReply
ask_reply id (Ok verdict) = service_reply.Judged id verdict
ask_reply id (Err f) = refusal_reply f

-- the reply to an edit
abbrev pub edit_reply : Edit → Result Changes EditFault → ServiceReply
edit_reply e (Ok changes) = service_reply.Reply (reply.Edited e changes)
edit_reply e (Err f) = service_reply.Reply (reply.Refused (refusal.Edit f))

-- the reply to a change of the profile
abbrev pub profile_reply : Profile → Result (Unit {0}) EditFault → ServiceReply
profile_reply p (Ok done) = service_reply.Reply (reply.Profiled p)
profile_reply p (Err f) = service_reply.Reply (reply.Refused (refusal.Edit f))

-- the list of changes isn't empty
abbrev pub has_changes : List Change → Bool
has_changes [] = false
has_changes (c ∷ cs) = true

-- the reply to an opening
abbrev pub open_reply : ℕ → List (List ℕ) → Result (Unit {0}) Refusal → ServiceReply
open_reply id name (Ok done) = service_reply.Reply (reply.Opened id name)
open_reply id name (Err f) = service_reply.Reply (reply.Refused f)

-- the reply is an edit that changed some protocols
abbrev pub is_change : ServiceReply → Bool
is_change (service_reply.Reply (reply.Edited e changes)) = has_changes changes.list
is_change (service_reply.Reply (reply.Profiled p)) = false
is_change (service_reply.Reply (reply.Opened id name)) = false
is_change (service_reply.Reply (reply.Noted id place verdict)) = false
is_change (service_reply.Reply (reply.Judged id name events verdict)) = false
is_change (service_reply.Reply (reply.Closed id name events verdict complete)) = false
is_change (service_reply.Reply (reply.Refused f)) = false
is_change (service_reply.Judged id verdict) = false
is_change (service_reply.Mismatch c place) = false

-- the reply is that an event was noted
abbrev pub is_noted : ServiceReply → Bool
is_noted (service_reply.Reply (reply.Edited e changes)) = false
is_noted (service_reply.Reply (reply.Profiled p)) = false
is_noted (service_reply.Reply (reply.Opened id name)) = false
is_noted (service_reply.Reply (reply.Noted id place verdict)) = true
is_noted (service_reply.Reply (reply.Judged id name events verdict)) = false
is_noted (service_reply.Reply (reply.Closed id name events verdict complete)) = false
is_noted (service_reply.Reply (reply.Refused f)) = false
is_noted (service_reply.Judged id verdict) = false
is_noted (service_reply.Mismatch c place) = false

-- the part of the output that a reply is
abbrev pub part_of_reply : ServiceReply → Part
part_of_reply (service_reply.Reply r) = reply_part r
part_of_reply (service_reply.Judged id verdict) = judged_part id verdict
part_of_reply (service_reply.Mismatch c place) = mismatch_part c place

-- the text of a reply in this format, with its LF
abbrev pub service_reply_text : Format → ServiceReply → List ℕ
service_reply_text f a = part_text f (part_of_reply a)
