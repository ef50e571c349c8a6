-- What is kept of a module text (this project's own).
use Rattle.std.specs.Prelude.{◌≡◌, ◌≤◌, ℕ, List, [], ◌∷◌, ◌++◌, length, take, Option, None, option_map}
use Rattle.scrib_labelled.specs.declared.put_text.PutText.{PutText}
use Rattle.scrib_labelled.specs.LabelledScripts.{LabelledText}

-- the tag of a put
abbrev pub tag_in : PutText → Option (List ℕ)
tag_in t = option_map (λ tag. tag.items) t.tag

-- the first 1,048,577 bytes of the text are kept, and its format, its tag, and the number and the bytes of its line
pub record HoldsText (kept : PutText) (t : LabelledText) : Type 0 where
  pub bytes : kept.bytes.items ≡ take 1048577 t.text.bytes
  pub format : kept.format ≡ t.text.format
  pub tag : tag_in kept ≡ t.label.tag
  pub session : t.label.session ≡ None
  pub line : kept.line ≡ t.label.line
  pub head : kept.head.items ≡ t.label.text

-- of this line too, which an LF ended, as much is kept
pub record HoldsMore (old new : PutText) (added : List ℕ) : Type 0 where
  pub bytes : length old.bytes.items ≤ 1048577 → new.bytes.items ≡ take 1048577 (take 1048577 (old.bytes.items ++ added) ++ 10 ∷ [])
  pub format : new.format ≡ old.format
  pub tag : tag_in new ≡ tag_in old
  pub line : new.line ≡ old.line
  pub head : new.head ≡ old.head
