-- The fields of a line, and the meaning of one field (this project's own).
use Rattle.std.specs.Prelude.{◌≡◌, ℕ, ◌≤◌, ◌<◌, ◌^◌, Bool, true, false, not, ◌||◌, ◌==◌, List, [], ◌∷◌, ◌++◌, length, Option, Some, None, MatchOption, IsTrue}
use Rattle.std.specs.List.{All, filter, list_all, slice_split}
use Rattle.std.specs.Str.Parse.{AllDigits, digits_value}
use Rattle.scrib_types.specs.declared.message.Message.{Message}
use Rattle.scrib_types.specs.Names.{is_name}
use Rattle.scrib_types.specs.Texts.{joined_by, dotted_text, dotted_texts, operator_text, message_text}

-- a space or a tab
abbrev pub is_blank : ℕ → Bool
is_blank b = (b == 32) || (b == 9)

-- the piece isn't empty
abbrev pub has_bytes : List ℕ → Bool
has_bytes piece = not (length piece == 0)

-- the fields of a line, in order: the pieces between its blanks, without the empty ones
unfoldable pub fields : List ℕ → List (List ℕ)
fields bytes = filter has_bytes (slice_split is_blank bytes)

-- the found value has the property; where none was found, no value has it
abbrev pub Finds : {A : Type 0} → (A → Type 0) → Option A → Type 0
Finds {A} P found = MatchOption found ((x : A) → P x → ⊥) P

-- the bytes are 1 to 10 decimal digits, and their value is below 2 ^ 32
pub record IsNumberText (bytes : List ℕ) (n : ℕ) : Type 0 where
  pub digits : AllDigits 10 bytes
  pub some : 0 < length bytes
  pub most : length bytes ≤ 10
  pub value : n ≡ digits_value 10 bytes
  pub fits : n < 2 ^ 32

-- the list is one or more names
abbrev pub is_dotted : List (List ℕ) → Bool
is_dotted [] = false
is_dotted (name ∷ names) = list_all is_name (name ∷ names)

-- the bytes are these names, one or more, joined by dots
abbrev pub IsDottedText : List ℕ → List (List ℕ) → Type 0
IsDottedText bytes names = (bytes ≡ dotted_text names) × IsTrue (is_dotted names)

-- the operator is absent, or a name
abbrev pub is_operator : Option (List ℕ) → Bool
is_operator None = true
is_operator (Some name) = is_name name

-- the bytes are the printed text of the message, and its operator and its payload consist of names
abbrev pub IsMessageText : List ℕ → Message → Type 0
IsMessageText bytes m =
    (bytes ≡ message_text m) × IsTrue (is_operator m.op) × IsTrue (list_all is_dotted m.payload)

-- the bytes are what is printed before the parentheses of a message with this operator
abbrev pub IsOperatorText : List ℕ → Option (List ℕ) → Type 0
IsOperatorText bytes op = (bytes ≡ operator_text op) × IsTrue (is_operator op)

-- the bytes are what is printed between the parentheses of a message with this payload
abbrev pub IsPayloadText : List ℕ → List (List (List ℕ)) → Type 0
IsPayloadText bytes payload = (bytes ≡ joined_by 44 (dotted_texts payload)) × IsTrue (list_all is_dotted payload)

-- the bytes are `before(between)`, and `before` has no opening parenthesis
abbrev pub IsCut : List ℕ → List ℕ → List ℕ → Type 0
IsCut bytes before between = (bytes ≡ before ++ (40 ∷ between) ++ 41 ∷ []) × All (λ b. (b == 40) ≡ false) before
