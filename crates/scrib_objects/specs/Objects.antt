-- The line that a JSON object stands for (this project's own).
use Rattle.std.specs.Prelude.{◌≡◌, ◌⊎◌, ℕ, Bool, false, not, ◌&&◌, if◌then◌else◌, List, [], ◌∷◌, ◌++◌, Option, Some, None, option_map, option_and_then, unwrap_or, codes}
use Rattle.std.specs.List.{list_all}
use Rattle.std.specs.Option.{option_or}
use Rattle.std.specs.Str.{IsUtf8, bytes_eq}
use Rattle.json.specs.Json.{Json, document}
use Rattle.json.specs.Find.{get, as_bool, as_number, as_str}
use Rattle.json.specs.Strict.{HasUniqueKeys}
use Rattle.scrib_types.specs.Texts.{joined_by}
use Rattle.scrib_core.specs.declared.format.Format.{Format}
use Rattle.scrib_core.specs.declared.format.Format.TheVariants as format
use Rattle.scrib_script_reader.specs.Fields.{has_bytes, is_blank}
use Rattle.scrib_labels.specs.SessionLines.{json_field}
use Rattle.scrib_labels.specs.Tags.{is_tag}
use Rattle.scrib_objects.specs.declared.object_options.ObjectOptions.{ObjectOptions}
use Rattle.scrib_objects.specs.declared.object_line.ObjectBody.{ObjectBody}
use Rattle.scrib_objects.specs.declared.object_line.ObjectBody.TheVariants as body
use Rattle.scrib_objects.specs.declared.object_line.ObjectLine.{ObjectLine}

-- what an object stands for: a line, a put of a text, or neither where it is bad
pub data Spelling : Type 0 where
  as_line : (bytes : List ℕ) → Spelling
  as_put : (replies : Format) (text : List ℕ) → Spelling
  as_bad : Spelling

-- the same, with the tag of the object
pub record Spelled : Type 0 where
  pub tag : Option (List ℕ)
  pub body : Spelling

-- no byte is a blank or a tab
abbrev pub has_no_blank : List ℕ → Bool
has_no_blank bytes = list_all (λ b. not (is_blank b)) bytes

-- the bytes are one field of a line: not empty, without blanks and tabs
abbrev pub is_field : List ℕ → Bool
is_field bytes = has_bytes bytes && has_no_blank bytes

-- the found bytes, where the test holds of them
abbrev pub passing : (List ℕ → Bool) → Option (List ℕ) → Option (List ℕ)
passing test found = option_and_then (λ bytes. if test bytes then Some bytes else None) found

-- the field that the value is as a text: a string that is one field
abbrev pub text_field : Json → Option (List ℕ)
text_field j = passing is_field (as_str j)

-- the field of the text under the key
abbrev pub text_of : List ℕ → Json → Option (List ℕ)
text_of key j = option_and_then text_field (get key j)

-- the field that the value is as a conversation: a number as it is written, and where names are allowed, a string
abbrev pub id_field : Bool → Json → Option (List ℕ)
id_field names j = option_or (as_number j) (if names then text_field j else None)

-- the field of the conversation
abbrev pub id_text : Bool → Json → Option (List ℕ)
id_text names j = option_and_then (id_field names) (get (codes "id") j)

-- the field under a key behind the word
abbrev pub field_under : Bool → Json → List ℕ → Option (List ℕ)
field_under names j key = if bytes_eq key (codes "id") then id_text names j else text_of key j

-- the fields under these keys, where each key has one
abbrev pub fields_under : Bool → Json → List (List ℕ) → Option (List (List ℕ))
fields_under names j [] = Some []
fields_under names j (key ∷ keys) =
    option_and_then (λ f. option_map (λ fs. f ∷ fs) (fields_under names j keys)) (field_under names j key)

-- the keys of the fields behind the word, where a line has this word
abbrev pub keys_of : List ℕ → Option (List (List ℕ))
keys_of word =
    if bytes_eq word (codes "withdraw") then Some (codes "module" ∷ [])
    else if bytes_eq word (codes "profile") then Some (codes "profile" ∷ [])
    else if bytes_eq word (codes "open") then Some (codes "id" ∷ codes "protocol" ∷ [])
    else if bytes_eq word (codes "join") then Some (codes "id" ∷ codes "role" ∷ [])
    else if bytes_eq word (codes "send") then Some (codes "id" ∷ codes "from" ∷ codes "to" ∷ codes "message" ∷ [])
    else if bytes_eq word (codes "recv") then Some (codes "id" ∷ codes "from" ∷ codes "to" ∷ codes "message" ∷ [])
    else if bytes_eq word (codes "turn") then Some (codes "id" ∷ [])
    else if bytes_eq word (codes "ask") then Some (codes "id" ∷ [])
    else if bytes_eq word (codes "close") then Some (codes "id" ∷ [])
    else if bytes_eq word (codes "sweep") then Some []
    else None

-- the fields with one blank between them
abbrev pub spaced : List (List ℕ) → List ℕ
spaced fs = joined_by 32 fs

-- the value of a flag: false without a member, and none where the member is no boolean
abbrev pub flag : Option Json → Option Bool
flag None = Some false
flag (Some member) = as_bool member

-- whether the reply is to be JSON
abbrev pub json_of : Json → Option Bool
json_of j = flag (get (codes "json") j)

-- the string under the key
abbrev pub string_under : List ℕ → Json → Option (List ℕ)
string_under key j = option_and_then as_str (get key j)

-- the line of this word
abbrev pub line_of : (names json : Bool) → List ℕ → Json → Option (List ℕ)
line_of names json word j =
    option_and_then (λ keys. option_map (λ fs. spaced (json_field json ++ word ∷ fs)) (fields_under names j keys))
    (keys_of word)

-- the format of the reply
abbrev pub format_of : Bool → Format
format_of json = if json then format.Json else format.Line

-- the put of a text under the key `text`
abbrev pub put_of : (json : Bool) → Json → Option Spelling
put_of json j = option_map (as_put (format_of json)) (string_under (codes "text") j)

-- what an object stands for whose member `do` is this word
abbrev pub body_of_word : (names json : Bool) → List ℕ → Json → Option Spelling
body_of_word names json word j =
    if bytes_eq word (codes "put") then put_of json j else option_map as_line (line_of names json word j)

-- what the object stands for, without its tag
abbrev pub body_of : (names : Bool) → Json → Option Spelling
body_of names j =
    option_and_then (λ word. option_and_then (λ json. body_of_word names json word j) (json_of j))
    (string_under (codes "do") j)

-- the tag that the value is: a string that is a tag
abbrev pub tag_text : Json → Option (List ℕ)
tag_text j = passing is_tag (as_str j)

-- the tag, or that there is none without a member; none at all where the member is no tag
abbrev pub tag_in : Option Json → Option (Option (List ℕ))
tag_in None = Some None
tag_in (Some member) = option_map Some (tag_text member)

-- the tag of an object, or that there is none; none at all where its member `tag` is bad
abbrev pub tag_of : (tags : Bool) → Json → Option (Option (List ℕ))
tag_of tags j = if tags then tag_in (get (codes "tag") j) else Some None

-- the same, and where it is bad, that it is
abbrev pub body_or_bad : (names : Bool) → Json → Spelling
body_or_bad names j = unwrap_or (body_of names j) as_bad

-- what the value stands for, and its tag; none where it has a bad tag
abbrev pub spelled : ObjectOptions → Json → Option Spelled
spelled o j = option_map (λ tag. record { tag = tag; body = body_or_bad o.names j }) (tag_of o.tags j)

-- what the body shows
abbrev pub shown_body : ObjectBody → Spelling
shown_body (body.Line bytes) = as_line bytes.items
shown_body (body.Put replies text) = as_put replies text.items
shown_body body.Bad = as_bad

-- what the line of an object shows
abbrev pub shown : ObjectLine → Spelled
shown l = record { tag = option_map (λ t. t.items) l.tag; body = shown_body l.body }

-- the bytes are a JSON text in which no object has a key twice, and stand for this
abbrev pub IsSpelled : ObjectOptions → List ℕ → Spelled → Type 0
IsSpelled o line s =
    IsUtf8 line × ((j : Json) × (document line ≡ Some j) × HasUniqueKeys j × (spelled o j ≡ Some s))

-- the bytes have no tag and are bad: no UTF-8, no JSON text, an object in it has a key twice, or its tag is bad
abbrev pub IsBad : ObjectOptions → List ℕ → Type 0
IsBad o line =
    (¬ IsUtf8 line)
    ⊎ (document line ≡ None)
    ⊎ ((j : Json) × (document line ≡ Some j) × (¬ HasUniqueKeys j))
    ⊎ ((j : Json) × (document line ≡ Some j) × (spelled o j ≡ None))

-- what the line stands for, or that it has no tag and is bad
abbrev pub IsObjectLine : ObjectOptions → List ℕ → Option Spelled → Type 0
IsObjectLine o line None = IsBad o line
IsObjectLine o line (Some s) = IsSpelled o line s
