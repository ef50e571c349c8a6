-- The parts of a line, and what an object stands for.
use Rattle.std.proofs.Common.{◌≡◌, ◌∙◌, ◌<◌, ◌+◌, ℕ, Bool, false, List, [], ◌∷◌, ◌++◌, Option, Some, None, map, length, drop, get_or, cond, codes, option_map, refl, sym, ap, append_assoc}
use Rattle.std.specs.Prelude.{option_and_then}
use Rattle.std.specs.Str.{bytes_eq}
use Rattle.std.proofs.lemmas.List.{drop_more, get_or-map, length-map}
use Rattle.json.specs.Json.{Json}
use Rattle.scrib_types.specs.Texts.{after_each}
use Rattle.scrib_objects.specs.Objects.{as_line, body_of, body_of_word, field_under, fields_under, json_of, line_of, put_of, string_under}

-- ---- the fields

-- the line with one more field, and those to come
added : (front field line : List ℕ) (more : Option (List (List ℕ))) → line ≡ front ++ 32 ∷ field
    → option_map (λ fs. line ++ after_each 32 fs) more ≡ option_map (λ fs. front ++ after_each 32 fs) (option_map (λ fs. field ∷ fs) more)
added front field line None e = refl
added front field line (Some fs) e =
    ap Some (ap (λ (l : List ℕ). l ++ after_each 32 fs) e ∙ append_assoc front (32 ∷ field) (after_each 32 fs))

module _ {A : Type 0} (f : A → List ℕ) (keys : List A) (i : ℕ) (d : A) (h : i < length keys) (names : Bool) (j : Json) where
  -- what is left of the keys begins with the next one
  next-key : drop i (map f keys) ≡ f (get_or keys i d) ∷ drop (i + 1) (map f keys)
  next-key =
      let inside : i < length (map f keys) = rw length-map h in
      drop_more (map f keys) i (f d) inside ∙ ap (λ (k : List ℕ). k ∷ drop (i + 1) (map f keys)) (get_or-map f keys i d (f d) h)

  -- where the next key has no field, there is no line
  pub field_missing : (front : List ℕ) (whole : Option (List ℕ)) → None ≡ field_under names j (f (get_or keys i d))
      → option_map (λ fs. front ++ after_each 32 fs) (fields_under names j (drop i (map f keys))) ≡ whole → None ≡ whole
  field_missing front whole none e =
      let under = λ (field : Option (List ℕ)). option_map (λ fs. front ++ after_each 32 fs)
      (option_and_then (λ x. option_map (λ fs. x ∷ fs) (fields_under names j (drop (i + 1) (map f keys)))) field) in
      ap under none ∙ sym (ap (λ (ks : List (List ℕ)). option_map (λ fs. front ++ after_each 32 fs) (fields_under names j ks)) next-key) ∙ e

  -- the next field is added
  pub field_added : (front field line : List ℕ) (whole : Option (List ℕ)) → Some field ≡ field_under names j (f (get_or keys i d)) → line ≡ front ++ 32 ∷ field
      → option_map (λ fs. front ++ after_each 32 fs) (fields_under names j (drop i (map f keys))) ≡ whole
      → option_map (λ fs. line ++ after_each 32 fs) (fields_under names j (drop (i + 1) (map f keys))) ≡ whole
  field_added front field line whole some is e =
      let under = λ (field : Option (List ℕ)). option_map (λ fs. front ++ after_each 32 fs)
      (option_and_then (λ x. option_map (λ fs. x ∷ fs) (fields_under names j (drop (i + 1) (map f keys)))) field) in
      added front field line (fields_under names j (drop (i + 1) (map f keys))) is
      ∙ ap under some
      ∙ sym (ap (λ (ks : List (List ℕ)). option_map (λ fs. front ++ after_each 32 fs) (fields_under names j ks)) next-key)
      ∙ e

-- ---- the body

-- a line made behind nothing
pub behind_nothing : (front : List ℕ) (line : Option (List ℕ)) → front ≡ [] → option_map (λ bytes. front ++ bytes) line ≡ line
behind_nothing front None e = refl
behind_nothing front (Some bytes) e = ap (λ (f : List ℕ). Some (f ++ bytes)) e

-- an object of a word other than `put` stands for the line of the word
pub line_body : (names json : Bool) (word : List ℕ) (j : Json) → Some word ≡ string_under (codes "do") j → Some json ≡ json_of j → bytes_eq word (codes "put") ≡ false
    → option_map as_line (line_of names json word j) ≡ body_of names j
line_body names json word j w f other =
    let with_word = λ (found : Option (List ℕ)). option_and_then (λ x. option_and_then (λ b. body_of_word names b x j) (json_of j)) found in
    let with_flag = λ (flag : Option Bool). option_and_then (λ b. body_of_word names b word j) flag in
    sym (ap (λ (b : Bool). cond b (put_of json j) (option_map as_line (line_of names json word j))) other) ∙ ap with_flag f ∙ ap with_word w
