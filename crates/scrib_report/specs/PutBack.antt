-- What is put back into the line of a reply (this project's own).
use Rattle.std.specs.Prelude.{ℕ, ◌==◌, if◌then◌else◌, List, [], ◌∷◌, ◌++◌, take, drop, Option, Some, None, option_map, codes}
use Rattle.std.specs.Borrow.{Bor}
use Rattle.std.specs.List.{prefix_len}
use Rattle.std.specs.Str.{bytes_eq}
use Rattle.scrib_types.specs.Names.{is_digit}
use Rattle.scrib_report.specs.declared.label.Label.{Label}

-- the bytes that a value of the code refers to, if there are any
abbrev pub bytes_of : Option (Bor (List ℕ)) → Option (List ℕ)
bytes_of b = option_map (λ bytes. bytes.now) b

-- What is put back into the replies to a line: its tag, and the name of its conversation. Objects may have the number
-- of the line, and that of the conversation of its step where they report a refusal.
pub record ReplyLabel : Type 0 where
  pub tag : Option (List ℕ)
  pub name : Option (List ℕ)
  pub line : Option ℕ
  pub conversation : Option ℕ

-- the tag of a label
abbrev pub tag_of : Label → Option (List ℕ)
tag_of l = bytes_of l.tag

-- the name of a label
abbrev pub name_of : Label → Option (List ℕ)
name_of l = bytes_of l.name

-- what a label of the code puts back
abbrev pub put_back_by : Label → ReplyLabel
put_back_by l = record { tag = tag_of l; name = name_of l; line = l.line; conversation = l.conversation }

-- the label without the name
abbrev pub without_name : ReplyLabel → ReplyLabel
without_name l = record { tag = l.tag; name = None; line = l.line; conversation = l.conversation }

-- what is written for a tag: `@`, the tag and a blank
abbrev pub tag_text : Option (List ℕ) → List ℕ
tag_text None = []
tag_text (Some tag) = 64 ∷ tag ++ 32 ∷ []

-- the number of digits that the bytes begin with
abbrev pub digits_len : List ℕ → ℕ
digits_len bytes = prefix_len is_digit bytes

-- the text with the name in the place of the digits that it begins with, if it begins with any
abbrev pub named : List ℕ → List ℕ → List ℕ
named name text = if digits_len text == 0 then text else name ++ drop (digits_len text) text

-- the number of bytes of a first word `open` or `close`, with the blank behind it; 0 of another line
abbrev pub word_len : List ℕ → ℕ
word_len line =
    if bytes_eq (take 5 line) (codes "open ") then 5
    else (if bytes_eq (take 6 line) (codes "close ") then 6 else 0)

-- the line with the name in the place of its conversation's number, which is at its head or behind `open` or `close`
abbrev pub with_name : Option (List ℕ) → List ℕ → List ℕ
with_name None line = line
with_name (Some name) line = take (word_len line) line ++ named name (drop (word_len line) line)

-- the line with its tag and with its conversation's name
abbrev pub labelled_line : (tag name : Option (List ℕ)) → List ℕ → List ℕ
labelled_line tag name line = tag_text tag ++ with_name name line
