-- Lines that name a protocol or a role, parsed up to their id (this project's own). Only contracts of private functions
-- cite this file.
use Rattle.std.specs.Prelude.{◌≡◌, ℕ, ◌≤◌, List, [], ◌∷◌, ◌++◌, length, IsTrue, codes}
use Rattle.scrib_types.specs.declared.event.Event.{Event}
use Rattle.scrib_types.specs.declared.event.Event.TheVariants as event
use Rattle.scrib_types.specs.Names.{is_name}
use Rattle.scrib_types.specs.Texts.{dotted_text}
use Rattle.scrib_script_reader.specs.declared.head.NamedWord.{NamedWord}
use Rattle.scrib_script_reader.specs.declared.head.NamedWord.TheVariants as word
use Rattle.scrib_script_reader.specs.Fields.{IsNumberText, fields, is_dotted}

-- the word as it is spelled: `open` or `join`
abbrev pub named_word : NamedWord → List ℕ
named_word word.Open = codes "open"
named_word word.Join = codes "join"

-- the line, of at most 131,072 bytes, is the word, the id's digits and the text, with one space between
abbrev pub IsNamedHead : List ℕ → NamedWord → ℕ → List ℕ → Type 0
IsNamedHead bytes w id text =
    (length bytes ≤ 131072)
    × ((digits : List ℕ) × (bytes ≡ named_word w ++ 32 ∷ digits ++ 32 ∷ text) × IsNumberText digits id)

-- the only field of the text is the text of this dotted name
abbrev pub SpellsName : List ℕ → List (List ℕ) → Type 0
SpellsName text name = (fields text ≡ dotted_text name ∷ []) × IsTrue (is_dotted name)

-- the role that joins; empty for another event
abbrev pub joining_role : Event → List ℕ
joining_role (event.Join r) = r
joining_role (event.Sent p q m) = []
joining_role (event.Received p q m) = []

-- the only field of the text is a name, and the event is the join of the role of that name
abbrev pub SpellsJoin : List ℕ → Event → Type 0
SpellsJoin text e =
    (e ≡ event.Join (joining_role e)) × (fields text ≡ joining_role e ∷ []) × IsTrue (is_name (joining_role e))
