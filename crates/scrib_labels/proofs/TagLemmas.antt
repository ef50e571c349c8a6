-- The tag of a line is what is before its first blank.
use Rattle.std.proofs.Common.{◌≡◌, ◌∙◌, ◌+◌, inl, inr, ℕ, suc, true, false, List, [], ◌∷◌, ◌++◌, take, drop, refl, sym, ap, subst, arith, rules}
use Rattle.std.specs.List.{position_or_len}
use Rattle.std.proofs.lemmas.Bool.{cases_Bool, false≢true}
use Rattle.std.proofs.lemmas.Bool.Decides.{nat_tests}
use Rattle.std.proofs.lemmas.List.{take-append-drop}
use Rattle.scrib_script_reader.specs.Fields.{is_blank}
use Rattle.scrib_labels.specs.Tags.{HasTag, IsApart, all_visible, begins_tag, is_tag, is_visible}

-- a visible byte is no blank
visible_no_blank : (b : ℕ) → is_visible b ≡ true → is_blank b ≡ false
visible_no_blank b h = grind (arith, nat_tests)

-- the first element and more of the others
take_next : (b n : ℕ) (bs : List ℕ) → take (1 + n) (b ∷ bs) ≡ b ∷ take n bs
take_next b n bs = let e : 1 + n ≡ suc n = omega arith in rw e refl

drop_next : (b n : ℕ) (bs : List ℕ) → drop (1 + n) (b ∷ bs) ≡ drop n bs
drop_next b n bs = let e : 1 + n ≡ suc n = omega arith in rw e refl

-- visible bytes before a blank, or before the end, are what is before the first blank
pub tag_first : (tag rest : List ℕ) → all_visible tag ≡ true → IsApart rest → take (position_or_len is_blank (tag ++ rest)) (tag ++ rest) ≡ tag
tag_first [] [] h a = refl
tag_first [] (b ∷ rest) h a = rw a refl
tag_first (b ∷ tag) rest h a =
    let no : is_blank b ≡ false = visible_no_blank b (search rules) in
    rw no (take_next b (position_or_len is_blank (tag ++ rest)) (tag ++ rest) ∙ ap (λ (t : List ℕ). b ∷ t) (tag_first tag rest (search rules) a))

-- what is behind the bytes before the first blank continues no field
apart-behind : (bytes : List ℕ) → IsApart (drop (position_or_len is_blank bytes) bytes)
apart-behind [] = tt
apart-behind (b ∷ bs) = elim (cases_Bool (is_blank b)) [
  | inl blank ↦ rw blank blank
  | inr other ↦ rw other (subst IsApart (sym (drop_next b (position_or_len is_blank bs) bs)) (apart-behind bs))
]

tag-visible : (tag : List ℕ) → is_tag tag ≡ true → all_visible tag ≡ true
tag-visible tag h = grind (arith, nat_tests)

tail-of : (a b : ℕ) (xs ys : List ℕ) → a ∷ xs ≡ b ∷ ys → xs ≡ ys
tail-of a b xs ys e = cc

pub cut_has_tag : (line after tag rest : List ℕ) → line ≡ 64 ∷ after → tag ≡ take (position_or_len is_blank after) after → rest ≡ drop (position_or_len is_blank after) after → is_tag tag ≡ true → HasTag line tag rest
cut_has_tag line after tag rest e t r h =
    let whole : after ≡ tag ++ rest = sym (take-append-drop (position_or_len is_blank after) after) ∙ sym (ap (λ (x : List ℕ). x ++ rest) t ∙ ap (λ (x : List ℕ). take (position_or_len is_blank after) after ++ x) r) in
    (e ∙ ap (λ (x : List ℕ). 64 ∷ x) whole, search rules, subst IsApart (sym r) (apart-behind after))

pub cut_is_bad : (line after tag : List ℕ) → line ≡ 64 ∷ after → tag ≡ take (position_or_len is_blank after) after → is_tag tag ≡ false → (begins_tag line ≡ true) × ((own rest : List ℕ) → HasTag line own rest → ⊥)
cut_is_bad line after tag e t h = (
  rw e refl,
  λ own rest has.
      let same : after ≡ own ++ rest = tail-of 64 64 after (own ++ rest) (sym e ∙ has.0) in
      let own_tag : is_tag own ≡ true = search rules in
      let first = tag_first own rest (tag-visible own own_tag) has.2 in
      let is : tag ≡ own = t ∙ ap (λ (x : List ℕ). take (position_or_len is_blank x) x) same ∙ first in
      false≢true (sym h ∙ ap is_tag is ∙ own_tag),
)
