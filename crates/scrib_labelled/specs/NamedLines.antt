-- What lines say of their conversations (this project's own).
use Rattle.std.specs.Prelude.{◌≡◌, ◌⊎◌, ℕ, Bool, true, false, List, Option, Some, None, option_map}
use Rattle.scrib_script_reader.specs.Fields.{fields}
use Rattle.scrib_labels.specs.SessionLines.{IsSessionLine, id_field}
use Rattle.scrib_labels.specs.SessionNames.{is_session_name}
use Rattle.scrib_script_reader.specs.declared.line.Line.{Line}
use Rattle.scrib_script_reader.specs.Says.{Says}
use Rattle.scrib_labels.specs.declared.session_names.SessionNames.{SessionNames}
use Rattle.scrib_labels.specs.Naming.{IsNumberFor}
use Rattle.scrib_report.specs.PutBack.{bytes_of}
use Rattle.scrib_labelled.specs.declared.label_options.LabelOptions.{LabelOptions}
use Rattle.scrib_labelled.specs.declared.line_parts.LineParts.{LineParts}
use Rattle.scrib_labelled.specs.declared.line_parts.Session.{Session}
use Rattle.scrib_labelled.specs.LabelledLines.{IsNumbered, LineLabel, StandsFor}
use Rattle.scrib_labelled.specs.declared.labelled_line.Named.{Named}
use Rattle.scrib_labelled.specs.declared.labelled_line.Named.TheVariants as named
use Rattle.scrib_labelled.specs.declared.labelled_line.Named.TheVariants.{Whole, Bad}

-- what the line says of its conversation, where conversations have names or not
abbrev pub IsNamed : (names : Bool) → List ℕ → Named → Type 0
IsNamed names rest Whole = (names ≡ false) ⊎ (id_field (fields rest) ≡ None)
IsNamed names rest Bad =
    (names ≡ true) × ((field : List ℕ) × (id_field (fields rest) ≡ Some field) × (is_session_name field ≡ false))
IsNamed names rest (named.Session s) = (names ≡ true) × IsSessionLine rest s × (is_session_name s.name.now ≡ true)

-- the name of a session, and the number that stands for it
abbrev pub session_of : Option Session → Option (List ℕ × ℕ)
session_of session = option_map (λ s. (s.name.now, s.number)) session

-- the label of the parts of a line
abbrev pub label_of : LineParts → LineLabel
label_of parts =
    record { line = parts.line; text = parts.text.now; tag = bytes_of parts.tag; session = session_of parts.session }

-- where a line names its conversation, this is a name of a conversation, and the number is one for the name
abbrev pub IsNumbersOf : SessionNames → Option (List ℕ × ℕ) → Type 0
IsNumbersOf names None = Unit {0}
IsNumbersOf names (Some s) = IsNumberFor names s.0 s.1 × (is_session_name s.0 ≡ true)

-- the line has this label, and the line that it stands for has this meaning
pub record ReadsAs (o : LabelOptions) (names : SessionNames) (whole : List ℕ) (parts : LineParts) (meaning : Line)
    : Type 0 where
  pub plain : List ℕ
  pub stands : StandsFor o whole (label_of parts) plain
  pub says : Says plain meaning
  pub numbers : IsNumbersOf names (label_of parts).session

-- the line without its tag names this conversation, if any, and the line that it stands for has this meaning
pub record ReadsRest (names : SessionNames) (named : Bool) (rest : List ℕ) (session : Option (List ℕ × ℕ))
    (meaning : Line) : Type 0 where
  pub plain : List ℕ
  pub numbered : IsNumbered named rest session plain
  pub says : Says plain meaning
  pub numbers : IsNumbersOf names session
