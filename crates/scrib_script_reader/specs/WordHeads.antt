-- Lines of exchanges with a word in the place of their id (this project's own). Only contracts of functions that read such
-- lines cite this file.
use Rattle.std.specs.Prelude.{◌≡◌, ℕ, ◌≤◌, List, ◌∷◌, ◌++◌, length}
use Rattle.scrib_script_reader.specs.declared.head.WordHead.{WordHead}
use Rattle.scrib_script_reader.specs.Heads.{direction_word}

-- the bytes are the word, a space and the text
abbrev pub IsWordBefore : List ℕ → (word text : List ℕ) → Type 0
IsWordBefore bytes word text = bytes ≡ word ++ 32 ∷ text

-- The line is the direction's word, the word in the place of an id and the text, with one space between. The text has at
-- most 65,536 bytes.
abbrev pub IsWordHead : List ℕ → WordHead → Type 0
IsWordHead bytes h =
    (bytes ≡ direction_word h.direction ++ 32 ∷ h.word.now ++ 32 ∷ h.text.now) × (length h.text.now ≤ 65536)
