-- Lines with a name in the place of a conversation's number (this project's own).
use Rattle.std.specs.Prelude.{◌≡◌, ℕ, Bool, true, false, ◌||◌, if◌then◌else◌, List, [], ◌∷◌, ◌++◌, Option, Some, None, codes}
use Rattle.std.specs.Fmt.{decimal}
use Rattle.std.specs.Str.{bytes_eq}
use Rattle.scrib_script_reader.specs.Fields.{fields, is_blank}
use Rattle.scrib_labels.specs.declared.session_line.SessionLine.{SessionLine}

-- the word of a line that reports an event
abbrev pub is_event_word : List ℕ → Bool
is_event_word w = bytes_eq w (codes "join") || bytes_eq w (codes "send") || bytes_eq w (codes "recv")

-- the word of another line about a conversation
abbrev pub is_state_word : List ℕ → Bool
is_state_word w =
    bytes_eq w (codes "open") || bytes_eq w (codes "turn") || bytes_eq w (codes "ask") || bytes_eq w (codes "close")

-- a conversation's number is behind the word
abbrev pub is_id_word : List ℕ → Bool
is_id_word w = is_event_word w || is_state_word w

-- the field in the place of a conversation's number, behind such a word
abbrev pub bare_id_field : List (List ℕ) → Option (List ℕ)
bare_id_field (word ∷ id ∷ fs) = if is_id_word word then Some id else None
bare_id_field _ = None

-- the same, with or without a field `json` in front
abbrev pub id_field : List (List ℕ) → Option (List ℕ)
id_field [] = None
id_field (first ∷ fs) = if bytes_eq first (codes "json") then bare_id_field fs else bare_id_field (first ∷ fs)

-- the field `json`, or none
abbrev pub json_field : Bool → List (List ℕ)
json_field j = if j then codes "json" ∷ [] else []

-- the fields are those of the line's parts
abbrev pub IsNamedLine : List (List ℕ) → SessionLine → Type 0
IsNamedLine fs s = (fs ≡ s.word.now ∷ s.name.now ∷ fields s.rest.now) × (is_id_word s.word.now ≡ true)

-- the line has these parts
abbrev pub IsSessionLine : List ℕ → SessionLine → Type 0
IsSessionLine line s =
    (fields line ≡ json_field s.json ++ s.word.now ∷ s.name.now ∷ fields s.rest.now)
    × (is_id_word s.word.now ≡ true)

-- the line with this number in the place of the name
abbrev pub numbered_line : SessionLine → ℕ → List ℕ
numbered_line s number =
    (if s.json then codes "json " else [])
    ++ (s.word.now ++ 32 ∷ (decimal number ++ 32 ∷ s.rest.now))

-- the bytes are empty or begin with a byte of a field
abbrev pub BeginsField : List ℕ → Type 0
BeginsField [] = Unit {0}
BeginsField (b ∷ bs) = is_blank b ≡ false
