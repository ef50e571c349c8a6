-- Tags of lines (this project's own).
use Rattle.std.specs.Prelude.{◌≡◌, ℕ, Bool, true, false, ◌&&◌, ◌==◌, nat_le, nat_lt, IsTrue, List, [], ◌∷◌, ◌++◌, length}
use Rattle.scrib_script_reader.specs.Fields.{is_blank}
use Rattle.scrib_labels.specs.declared.tag.TagCut.{TagCut}
use Rattle.scrib_labels.specs.declared.tag.TagHead.{TagHead}
use Rattle.scrib_labels.specs.declared.tag.TagCut.TheVariants.{Untagged, Tagged, Bad}

-- a visible ASCII byte
abbrev pub is_visible : ℕ → Bool
is_visible b = nat_le 33 b && nat_le b 126

-- each byte is visible
abbrev pub all_visible : List ℕ → Bool
all_visible [] = true
all_visible (b ∷ bs) = is_visible b && all_visible bs

-- a tag: 1 to 64 visible ASCII bytes
abbrev pub is_tag : List ℕ → Bool
is_tag bytes = nat_lt 0 (length bytes) && nat_le (length bytes) 64 && all_visible bytes

-- the line begins with `@`
abbrev pub begins_tag : List ℕ → Bool
begins_tag [] = false
begins_tag (b ∷ bs) = b == 64

-- the bytes are empty or begin with a blank or a tab, so they continue no field
abbrev pub IsApart : List ℕ → Type 0
IsApart [] = Unit {0}
IsApart (b ∷ bs) = is_blank b ≡ true

-- the line is `@`, this tag, and this rest
abbrev pub HasTag : List ℕ → (tag rest : List ℕ) → Type 0
HasTag line tag rest = (line ≡ 64 ∷ tag ++ rest) × IsTrue (is_tag tag) × IsApart rest

-- what the head of the line says of a tag
abbrev pub IsTagCut : List ℕ → TagCut → Type 0
IsTagCut line Untagged = begins_tag line ≡ false
IsTagCut line (Tagged tag rest) = HasTag line tag.now rest.now
IsTagCut line Bad = (begins_tag line ≡ true) × ((tag rest : List ℕ) → HasTag line tag rest → ⊥)

-- the line is this head, which is `@`, a tag and a blank, and this rest
abbrev pub IsTagHead : List ℕ → TagHead → Type 0
IsTagHead line h =
    HasTag line h.tag.now (32 ∷ h.rest.now) × (h.head.now ≡ 64 ∷ h.tag.now ++ 32 ∷ [])
