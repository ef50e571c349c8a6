-- The lines of a script with tags and names or of objects, and the lines that they stand for (this project's own).
use Rattle.std.specs.Prelude.{◌≡◌, ◌⊎◌, ℕ, ◌≤◌, ◌<◌, Bool, true, false, if◌then◌else◌, List, [], ◌∷◌, Option, Some, None, length, codes}
use Rattle.std.specs.Fmt.{decimal}
use Rattle.std.specs.Str.{bytes_eq}
use Rattle.scrib_core.specs.declared.format.Format.{Format}
use Rattle.scrib_script_reader.specs.declared.line.Line.TheVariants as line
use Rattle.scrib_script_reader.specs.Fields.{fields}
use Rattle.scrib_script_reader.specs.Says.{Says}
use Rattle.scrib_script_reader.specs.Scripts.{bare}
use Rattle.scrib_labels.specs.SessionLines.{id_field}
use Rattle.scrib_labels.specs.SessionNames.{is_session_name}
use Rattle.scrib_labels.specs.Tags.{HasTag}
use Rattle.scrib_objects.specs.declared.object_options.ObjectOptions.{ObjectOptions}
use Rattle.scrib_objects.specs.Objects.{IsObjectLine, Spelled, Spelling, as_bad, as_line, as_put}
use Rattle.scrib_labelled.specs.declared.label_options.LabelOptions.{LabelOptions}

-- the label of a line: its number, what is read of its bytes, its tag, and the name of its conversation with the number
-- that stands for the name
pub record LineLabel : Type 0 where
  pub line : ℕ
  pub text : List ℕ
  pub tag : Option (List ℕ)
  pub session : Option (List ℕ × ℕ)

-- the label has no tag and no name
abbrev pub IsUnlabelled : LineLabel → Type 0
IsUnlabelled label = (label.tag ≡ None) × (label.session ≡ None)

-- the fields with other bytes in the place of a conversation's number
abbrev pub bare_with_id : List ℕ → List (List ℕ) → List (List ℕ)
bare_with_id id (word ∷ old ∷ fs) = word ∷ id ∷ fs
bare_with_id id fs = fs

-- the same, with or without a field `json` in front
abbrev pub with_id : List ℕ → List (List ℕ) → List (List ℕ)
with_id id [] = []
with_id id (first ∷ fs) =
    if bytes_eq first (codes "json") then first ∷ bare_with_id id fs else bare_with_id id (first ∷ fs)

-- the bytes behind the first
abbrev pub behind_first : List ℕ → List ℕ
behind_first [] = []
behind_first (b ∷ bs) = bs

-- The line without its tag and the blank behind it, where tags are read. A line without a tag stays whole.
abbrev pub IsUntagged : Bool → (whole : List ℕ) → (tag : Option (List ℕ)) → (rest : List ℕ) → Type 0
IsUntagged false whole tag rest = (tag ≡ None) × (rest ≡ whole)
IsUntagged true whole None rest = ((tag more : List ℕ) → HasTag whole tag more → ⊥) × (rest ≡ whole)
IsUntagged true whole (Some tag) rest = (behind : List ℕ) × HasTag whole tag behind × (rest ≡ behind_first behind)

-- the line with a number in the place of the name, or a bad line where the field is no name
abbrev pub IsNumberedAt : (field rest : List ℕ) → Option (List ℕ × ℕ) → (plain : List ℕ) → Type 0
IsNumberedAt field rest None plain = (is_session_name field ≡ false) × Says plain line.Bad
IsNumberedAt field rest (Some session) plain =
    (is_session_name field ≡ true) × (session.0 ≡ field)
    × (fields plain ≡ with_id (decimal session.1) (fields rest))

-- the same of a line with this field in the place of a number; a line without one stays whole
abbrev pub IsNumberedBy : Option (List ℕ) → (rest : List ℕ) → Option (List ℕ × ℕ) → (plain : List ℕ) → Type 0
IsNumberedBy None rest session plain = (session ≡ None) × (plain ≡ rest)
IsNumberedBy (Some field) rest session plain = IsNumberedAt field rest session plain

-- the same of any line; where names are not read, each line stays whole
abbrev pub IsNumbered : Bool → (rest : List ℕ) → Option (List ℕ × ℕ) → (plain : List ℕ) → Type 0
IsNumbered false rest session plain = (session ≡ None) × (plain ≡ rest)
IsNumbered true rest session plain = IsNumberedBy (id_field (fields rest)) rest session plain

-- the members that objects may have
abbrev pub object_options : LabelOptions → ObjectOptions
object_options o = record { tags = o.tags; names = o.names }

-- the line of a script without labels that an object's line stands for; a put is no line
abbrev pub IsObjectBody : (names : Bool) → Spelling → Option (List ℕ × ℕ) → (plain : List ℕ) → Type 0
IsObjectBody names (as_line bytes) session plain = IsNumbered names bytes session plain
IsObjectBody names (as_put replies text) session plain = ⊥
IsObjectBody names as_bad session plain = (session ≡ None) × Says plain line.Bad

-- the same with the label of the object; a line that is no object with a good tag is bad, and has neither tag nor name
abbrev pub IsObjectOf : (names : Bool) → Option Spelled → LineLabel → (plain : List ℕ) → Type 0
IsObjectOf names None label plain = IsUnlabelled label × Says plain line.Bad
IsObjectOf names (Some s) label plain = (label.tag ≡ s.tag) × IsObjectBody names s.body label.session plain

-- a line within the limit has this label, and stands for this one: as an object, or behind its tag
abbrev pub IsLineOf : (objects : Bool) → LabelOptions → (whole : List ℕ) → LineLabel → (plain : List ℕ) → Type 0
IsLineOf false o whole label plain =
    (rest : List ℕ) × IsUntagged o.tags whole label.tag rest × IsNumbered o.names rest label.session plain
IsLineOf true o whole label plain =
    (found : Option Spelled) × IsObjectLine (object_options o) whole found × IsObjectOf o.names found label plain

-- the most bytes of a line: 8 MiB of an object, else 131,072
abbrev pub line_limit : LabelOptions → ℕ
line_limit o = if o.objects then 8388608 else 131072

-- what is read of a line, without its end: all of it, or a part that is as much too long as the line is
abbrev pub IsCutOf : LabelOptions → (cut l : List ℕ) → Type 0
IsCutOf o cut l = (cut ≡ bare l) ⊎ ((line_limit o < length cut) × (line_limit o < length (bare l)))

-- the label has the number of the line, and what is read of the line
abbrev pub IsLabelAt : LabelOptions → (n : ℕ) → (l : List ℕ) → LineLabel → Type 0
IsLabelAt o n l label = (label.line ≡ n) × IsCutOf o label.text l

-- The line has this label, and stands for this line of a script without labels. Both are without their ends. A longer
-- line than the limit is bad, and its tag and its name are not read.
abbrev pub StandsFor : LabelOptions → (whole : List ℕ) → LineLabel → (plain : List ℕ) → Type 0
StandsFor o whole label plain =
    ((line_limit o < length whole) × IsUnlabelled label × Says plain line.Bad)
    ⊎ ((length whole ≤ line_limit o) × IsLineOf o.objects o whole label plain)

-- the line is an object with this label that puts a text, whose reply is printed in this format
abbrev pub IsPutObject : LabelOptions → (whole : List ℕ) → LineLabel → Format → (text : List ℕ) → Type 0
IsPutObject o whole label f text =
    (length whole ≤ line_limit o) × (o.objects ≡ true) × (label.session ≡ None)
    × IsObjectLine (object_options o) whole (Some (record { tag = label.tag; body = as_put f text }))
