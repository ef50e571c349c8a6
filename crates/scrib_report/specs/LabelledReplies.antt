-- The texts of replies with the label of their line (this project's own).
use Rattle.std.specs.Prelude.{ℕ, Bool, true, false, if◌then◌else◌, List, [], ◌∷◌, ◌++◌, Option, Some, None, is_some, codes}
use Rattle.serde_json.specs.Data.{Data, boolean, object, string, Members, no_members, member, put}
use Rattle.serde_json.specs.Written.{compact_text}
use Rattle.scrib_core.specs.declared.format.Format.{Format}
use Rattle.scrib_core.specs.declared.format.Format.TheVariants as format
use Rattle.scrib_core.specs.declared.reply.Reply.{Reply}
use Rattle.scrib_core.specs.declared.reply.Reply.TheVariants as reply
use Rattle.scrib_report.specs.declared.part.OutputPart.{OutputPart}
use Rattle.scrib_report.specs.Json.{json_of, natural}
use Rattle.scrib_report.specs.LineOutput.{part_line}
use Rattle.scrib_report.specs.Parts.{part_of, swept_part}
use Rattle.scrib_report.specs.PutBack.{ReplyLabel, labelled_line, without_name}
use Rattle.scrib_report.specs.ReplyTexts.{bad_line, end_of_text, part_text, reply_text}

-- the members, with this text under this key, if there is a text
abbrev pub with_text : List ℕ → Option (List ℕ) → Members → Members
with_text key None ms = ms
with_text key (Some text) ms = put key (string text) ms

-- the members, with this number under this key, if there is a number
abbrev pub with_number : List ℕ → Option ℕ → Members → Members
with_number key None ms = ms
with_number key (Some n) ms = put key (natural n) ms

-- the object, with the name as its conversation, with the number of its line, and with its tag
abbrev pub with_label : ReplyLabel → Data → Data
with_label l (object ms) = object (with_text (codes "tag") l.tag
    (with_number (codes "line") l.line (with_text (codes "conversation") l.name ms)))
with_label l d = d

-- the object, with the number of this conversation, if there is one
abbrev pub with_conversation : Option ℕ → Data → Data
with_conversation conversation (object ms) = object (with_number (codes "conversation") conversation ms)
with_conversation conversation d = d

-- the object of a reply: that of a refusal has the conversation of the step, if the label has it
abbrev pub reply_object : ReplyLabel → Reply → Data
reply_object l (reply.Refused f) = with_conversation l.conversation (json_of (reply.Refused f))
reply_object l r = json_of r

-- the object of the reply is about one conversation, and has its number
abbrev pub has_conversation : ReplyLabel → Reply → Bool
has_conversation l (reply.Opened id name) = true
has_conversation l (reply.Noted id place told) = true
has_conversation l (reply.Judged id name events told) = true
has_conversation l (reply.Closed id name events verdict complete) = true
has_conversation l (reply.Refused f) = is_some l.conversation
has_conversation l _ = false

-- the JSON of the reply with its label, and an LF
abbrev pub labelled_json : ReplyLabel → Reply → List ℕ
labelled_json l r =
    compact_text (with_label (if has_conversation l r then l else without_name l) (reply_object l r)) ++ 10 ∷ []

-- the line of a part with its label
abbrev pub labelled_part : ReplyLabel → OutputPart → List ℕ
labelled_part l p = labelled_line l.tag l.name (part_line (part_of p))

-- what is written for a reply with its label in this format
abbrev pub labelled_reply : Format → ReplyLabel → Reply → List ℕ
labelled_reply format.Line l r = labelled_line l.tag l.name (reply_text format.Line r)
labelled_reply format.Json l r = labelled_json l r

-- the JSON of a sweep that judged so many conversations
abbrev pub swept_object : ℕ → Data
swept_object judged =
    object (member (codes "judged") (natural judged) (member (codes "swept") (boolean true) no_members))

-- the JSON of a bad line of this number
abbrev pub bad_object : ℕ → Data
bad_object n = object (member (codes "line") (natural n) (member (codes "refused") (string (codes "BadLine")) no_members))

-- the JSON of an end inside a module text
abbrev pub end_object : Data
end_object = object (member (codes "refused") (string (codes "EndOfText")) no_members)

-- what is written for a sweep that judged so many conversations, with the label of its line; it has no name
abbrev pub labelled_swept : Format → ReplyLabel → ℕ → List ℕ
labelled_swept format.Line l judged = labelled_line l.tag None (part_text format.Line (swept_part judged))
labelled_swept format.Json l judged = compact_text (with_label (without_name l) (swept_object judged)) ++ 10 ∷ []

-- what is written for a bad line of this number with its label; it has no name
abbrev pub labelled_bad_line : Format → ReplyLabel → ℕ → List ℕ
labelled_bad_line format.Line l n = labelled_line l.tag None (bad_line format.Line n)
labelled_bad_line format.Json l n = compact_text (with_label (without_name l) (bad_object n)) ++ 10 ∷ []

-- what is written for an end inside a module text, with the label of its put; it has no name
abbrev pub labelled_end : Format → ReplyLabel → List ℕ
labelled_end format.Line l = labelled_line l.tag None (end_of_text format.Line)
labelled_end format.Json l = compact_text (with_label (without_name l) end_object) ++ 10 ∷ []
