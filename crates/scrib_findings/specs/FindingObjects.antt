-- The JSON objects of findings (this project's own). JSON values are the `Data` of `serde_json`, whose `put` keeps keys
-- in the order of their bytes.
use Rattle.std.specs.Prelude.{ℕ, List, [], ◌∷◌, Option, Some, None, codes}
use Rattle.serde_json.specs.Data.{Data, object, string, Members, no_members, member, put}
use Rattle.scrib_types.specs.declared.event.Action.TheVariants as action
use Rattle.scrib_types.specs.declared.event.Event.{Event}
use Rattle.scrib_types.specs.declared.event.Event.TheVariants.{Join, Sent, Received}
use Rattle.scrib_types.specs.declared.message.Message.{Message}
use Rattle.scrib_types.specs.Logs.{subject_of}
use Rattle.scrib_types.specs.Texts.{dotted_text, message_text}
use Rattle.scrib_global.specs.declared.next.RoleNext.{RoleNext}
use Rattle.scrib_global.specs.declared.next.RoleNext.TheVariants.{MayJoin, Done, May, WaitsFor}
use Rattle.scrib_offences.specs.declared.explained_offence.Situation.{Situation}
use Rattle.scrib_offences.specs.declared.explained_offence.Situation.TheVariants.{Undeclared, Next}
use Rattle.scrib_report.specs.Json.{natural, actions_array}
use Rattle.scrib_report.specs.LabelledReplies.{with_text}
use Rattle.scrib_report.specs.Lines.{refusal_text}
use Rattle.scrib_report.specs.PutBack.{bytes_of}
use Rattle.scrib_show.specs.ShownLines.{reason_word}
use Rattle.scrib_findings.specs.declared.finding.ConversationId.{ConversationId}
use Rattle.scrib_findings.specs.declared.finding.Finding.{Finding}
use Rattle.scrib_findings.specs.declared.finding.Finding.TheVariants as finding
use Rattle.scrib_findings.specs.declared.finding.FoundOffence.{FoundOffence}
use Rattle.scrib_findings.specs.declared.finding.OffenceEnd.{OffenceEnd}
use Rattle.scrib_findings.specs.declared.finding.RefusedStep.{RefusedStep}
use Rattle.scrib_findings.specs.declared.finding.ReportedOffence.{ReportedOffence}
use Rattle.scrib_findings.specs.FindingLines.{clean_word}

-- the name, or the number where there is no name
abbrev pub name_or_number : Option (List ℕ) → ℕ → Data
name_or_number None n = natural n
name_or_number (Some name) n = string name

-- a conversation by its name, or by its number where it has none
abbrev pub conversation_item : ConversationId → Data
conversation_item c = name_or_number (bytes_of c.name) c.number

-- a send or a reception, as `{"do":"recv","from":"Orders","message":"charge(Int)","to":"Payment"}`
unfoldable pub exchange_object : (word from to : List ℕ) → Message → Data
exchange_object word p q m =
    object (member (codes "do") (string word)
    (member (codes "from") (string p)
    (member (codes "message") (string (message_text m))
    (member (codes "to") (string q) no_members))))

-- an event; a join as `{"do":"join","role":"Orders"}`
unfoldable pub event_object : Event → Data
event_object (Join r) =
    object (member (codes "do") (string (codes "join")) (member (codes "role") (string r) no_members))
event_object (Sent p q m) = exchange_object (codes "send") p q m
event_object (Received p q m) = exchange_object (codes "recv") p q m

-- the members, with what a role may do or waits for: `"may":["join"]` of one that has not joined, nothing of one that
-- is done
abbrev pub with_next : RoleNext → Members → Members
with_next (MayJoin acts) ms = put (codes "may") (actions_array (action.Join ∷ [])) ms
with_next Done ms = ms
with_next (May acts) ms = put (codes "may") (actions_array acts) ms
with_next (WaitsFor acts) ms = put (codes "waits") (actions_array acts) ms

-- the members, with the role that is not declared, as `"undeclared":"Zoe"`, or with what the role may do
abbrev pub with_situation : Situation → Members → Members
with_situation (Undeclared r) ms = put (codes "undeclared") (string r) ms
with_situation (Next next) ms = with_next next ms

-- The members of an offence: the actions that its role was allowed, its place, the reason, its role, its event, and
-- the line of the event. The situation is among them.
unfoldable pub offence_members : ReportedOffence → Members
offence_members o =
    with_situation o.explained.situation
    (member (codes "allowed") (actions_array o.allowed)
    (member (codes "at") (natural o.explained.place)
    (member (codes "because") (string (reason_word o.explained.reason))
    (member (codes "by") (string (subject_of o.explained.event))
    (member (codes "event") (event_object o.explained.event)
    (member (codes "line") (natural o.line) no_members))))))

-- the members, with the conversation, the line of the step that found something of it, and its protocol
abbrev pub with_found : ConversationId → (protocol : List (List ℕ)) → (found : ℕ) → Members → Members
with_found c protocol found ms =
    put (codes "protocol") (string (dotted_text protocol))
    (put (codes "found") (natural found) (put (codes "conversation") (conversation_item c) ms))

-- the members of an offence that was found
abbrev pub found_members : FoundOffence → Members
found_members f = with_found f.conversation f.protocol.now f.found (offence_members f.offence.now)

-- the members of the end of an offence: the verdict now, and the offence that was reported before
unfoldable pub end_members : OffenceEnd → Members
end_members e =
    with_found e.conversation e.protocol.now e.found
    (member (codes "verdict") (string (clean_word e.verdict))
    (member (codes "was") (object (offence_members e.was.now)) no_members))

-- the members, with the conversation that a refused step concerns, if it concerns one
abbrev pub with_concerned : Option ConversationId → Members → Members
with_concerned None ms = ms
with_concerned (Some c) ms = put (codes "conversation") (conversation_item c) ms

-- the members of a refusal, as `"line":12,"refused":"NoConversation"`
unfoldable pub refusal_members : RefusedStep → Members
refusal_members r =
    with_concerned r.conversation
    (member (codes "line") (natural r.line) (member (codes "refused") (string (refusal_text r.refusal)) no_members))

-- the members of a finding without a tag
abbrev pub finding_members : Finding → Members
finding_members (finding.Offence f) = found_members f
finding_members (finding.OffenceEnd e) = end_members e
finding_members (finding.Refusal r) = refusal_members r

-- the object of a finding with its tag, if it has one
abbrev pub finding_object : (tag : Option (List ℕ)) → Finding → Data
finding_object tag f = object (with_text (codes "tag") tag (finding_members f))
