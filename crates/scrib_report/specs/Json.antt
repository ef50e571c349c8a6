-- The JSON of replies (this project's own). JSON values are the `Data` of `serde_json`, and their text is its
-- `compact_text`, which writes members in the given order. So each object below lists its keys in the order of bytes.
use Rattle.std.specs.Prelude.{ℕ, Bool, List, [], ◌∷◌, ◌++◌, codes, length, map}
use Rattle.std.specs.Fmt.{decimal}
use Rattle.serde_json.specs.Data.{Data, boolean, number, unsigned, string, array, object, Members, no_members, member}
use Rattle.serde_json.specs.View.{items_of}
use Rattle.serde_json.specs.Written.{compact_text}
use Rattle.scrib_types.specs.declared.event.Action.{Action}
use Rattle.scrib_types.specs.declared.event.Verdict.{Verdict}
use Rattle.scrib_types.specs.declared.event.Verdict.TheVariants.{Permitted, Offence, Withdrawn}
use Rattle.scrib_types.specs.declared.event.Told.{Told}
use Rattle.scrib_types.specs.declared.event.Told.TheVariants.{Stale, Judged}
use Rattle.scrib_types.specs.Texts.{dotted_text, action_text, profile_word}
use Rattle.scrib_library.specs.declared.changes.Change.{Change}
use Rattle.scrib_core.specs.declared.reply.Reply.{Reply}
use Rattle.scrib_core.specs.declared.reply.Reply.TheVariants as reply
use Rattle.scrib_core.specs.declared.ended.Ended.{Ended}
use Rattle.scrib_report.specs.Lines.{change_text, edit_word, verdict_word, refusal_text}
use Rattle.scrib_report.specs.Table.{events_of}

-- a natural number, written in decimal
abbrev pub natural : ℕ → Data
natural n = number (unsigned n)

-- one change, as `"+demo.Hello"`
abbrev pub change_item : Change → Data
change_item c = string (change_text c)

-- a list of changes, as `["+demo.Hello"]`
abbrev pub changes_array : List Change → Data
changes_array cs = array (items_of (map change_item cs))

-- one action, as `"B!hello()"`
abbrev pub action_item : Action → Data
action_item a = string (action_text a)

-- a list of actions, as `["B!hello()","B!x()"]`
abbrev pub actions_array : List Action → Data
actions_array as_ = array (items_of (map action_item as_))

-- the members; for an offence, first `"allowed":[],"at":3,"by":"B"`: the allowed actions, its place and its role
abbrev pub offence_then : Told → Members → Members
offence_then Stale ms = ms
offence_then (Judged Permitted) ms = ms
offence_then (Judged Withdrawn) ms = ms
offence_then (Judged (Offence place role allowed)) ms =
    member (codes "allowed") (actions_array allowed)
    (member (codes "at") (natural place) (member (codes "by") (string role) ms))

-- the member `"verdict":"permitted"`
abbrev pub verdict_member : Told → Members
verdict_member verdict = member (codes "verdict") (string (verdict_word verdict)) no_members

-- the reply to a noted event, as `{"conversation":1,"place":3,"verdict":"permitted"}`
abbrev pub noted_object : ℕ → ℕ → Told → Data
noted_object id place verdict =
    object (offence_then verdict
    (member (codes "conversation") (natural id) (member (codes "place") (natural place) (verdict_member verdict))))

-- the reply to a turn or a question, as
-- `{"conversation":1,"events":2,"protocol":"demo.Hello","verdict":"permitted"}`
abbrev pub judged_object : ℕ → List (List ℕ) → ℕ → Told → Data
judged_object id name events verdict =
    object (offence_then verdict
    (member (codes "conversation") (natural id)
    (member (codes "events") (natural events)
    (member (codes "protocol") (string (dotted_text name)) (verdict_member verdict)))))

-- the reply to a close, as
-- `{"closed":"demo.Hello","complete":true,"conversation":1,"events":6,"verdict":"permitted"}`
abbrev pub closed_object : ℕ → List (List ℕ) → ℕ → Verdict → (complete : Bool) → Data
closed_object id name events verdict complete =
    object (offence_then (Judged verdict)
    (member (codes "closed") (string (dotted_text name))
    (member (codes "complete") (boolean complete)
    (member (codes "conversation") (natural id)
    (member (codes "events") (natural events) (verdict_member (Judged verdict)))))))

-- the JSON of a reply; besides the three above `{"changes":["+demo.Hello"],"edit":"put","module":"demo"}`,
-- `{"profile":"plain"}`, `{"conversation":1,"opened":"demo.Hello"}` and `{"refused":"LogFull"}`
unfoldable pub json_of : Reply → Data
json_of (reply.Edited e changes) =
    object (member (codes "changes") (changes_array changes.list)
    (member (codes "edit") (string (edit_word e))
    (member (codes "module") (string (dotted_text changes.module)) no_members)))
json_of (reply.Profiled p) = object (member (codes "profile") (string (profile_word p)) no_members)
json_of (reply.Opened id name) =
    object (member (codes "conversation") (natural id) (member (codes "opened") (string (dotted_text name)) no_members))
json_of (reply.Noted id place verdict) = noted_object id place verdict
json_of (reply.Judged id name events verdict) = judged_object id name events verdict
json_of (reply.Closed id name events verdict complete) = closed_object id name events verdict complete
json_of (reply.Refused f) = object (member (codes "refused") (string (refusal_text f)) no_members)

-- the text of a reply's JSON, with no blank between its parts
abbrev pub json_text : Reply → List ℕ
json_text r = compact_text (json_of r)

-- a service's reply to a turn or a question, as `{"conversation":1,"verdict":"permitted"}`
abbrev pub verdict_object : ℕ → Told → Data
verdict_object id verdict =
    object (offence_then verdict (member (codes "conversation") (natural id) (verdict_member verdict)))

-- the text of that object
abbrev pub judged_json : ℕ → Told → List ℕ
judged_json id verdict = compact_text (verdict_object id verdict)

-- the refusal of a pass whose receipt differs from the log at this place, as
-- `{"conversation":1,"place":3,"refused":"Mismatch"}`
unfoldable pub mismatch_object : ℕ → ℕ → Data
mismatch_object conversation place =
    object (member (codes "conversation") (natural conversation)
    (member (codes "place") (natural place) (member (codes "refused") (string (codes "Mismatch")) no_members)))

-- the text of that object
abbrev pub mismatch_json : ℕ → ℕ → List ℕ
mismatch_json conversation place = compact_text (mismatch_object conversation place)

-- a settled conversation, in the form of the reply to a question about it:
-- `{"conversation":1,"events":2,"protocol":"demo.Hello","verdict":"permitted"}`
abbrev pub ended_json : Ended → List ℕ
ended_json e = compact_text (judged_object e.id e.name e.events e.told)

-- one line for each settled conversation
abbrev pub ended_lines : List Ended → List ℕ
ended_lines [] = []
ended_lines (e ∷ es) = ended_json e ++ codes "\n" ++ ended_lines es

-- the last line, as `{"conversations":2,"events":2000}`
unfoldable pub total_line : (conversations events : ℕ) → List ℕ
total_line conversations events =
    codes "{\"conversations\":" ++ decimal conversations ++ codes ",\"events\":" ++ decimal events ++ codes "}\n"

-- the table of settled conversations, as lines of JSON
abbrev pub table_json : List Ended → List ℕ
table_json list = ended_lines list ++ total_line (length list) (events_of list)
