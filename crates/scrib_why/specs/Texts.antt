-- The text of a kind of refusal, and the list of the names (this project's own).
use Rattle.std.specs.Prelude.{ℕ, List, [], ◌∷◌, ◌++◌, ◌==◌, if◌then◌else◌, codes}
use Rattle.scrib_why.specs.declared.kind.Kind.{Kind}

-- the text with its LF
unfoldable pub line : List ℕ → List ℕ
line text = text ++ codes "\n"

-- the text with four blanks behind each LF
abbrev pub indented : List ℕ → List ℕ
indented [] = []
indented (b ∷ bs) = (if b == 10 then 10 ∷ codes "    " else b ∷ []) ++ indented bs

-- a heading with a colon, and the text below it, each of its lines behind four blanks
unfoldable pub block : (heading text : List ℕ) → List ℕ
block heading text = heading ++ codes ":\n    " ++ indented text ++ codes "\n"

-- the name, the meaning, the example, what is printed of it, and the cure
unfoldable pub kind_text : Kind → List ℕ
kind_text k =
    line k.name.now ++ line k.meaning.now ++ block (codes "example") k.example.now ++ block k.reader.now k.printed.now
    ++ block (codes "cure") k.cure.now

-- each of the texts with an LF
abbrev pub lines_of : List (List ℕ) → List ℕ
lines_of [] = []
lines_of (t ∷ ts) = line t ++ lines_of ts
