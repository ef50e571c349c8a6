-- The fields of a line, one by one.
use Rattle.std.proofs.Common.{◌≡◌, ◌≢◌, ◌∙◌, ◌<◌, ◌≤◌, ◌+◌, inl, inr, ℕ, suc, true, false, Bool, List, [], ◌∷◌, length, take, drop, get_or, cond, refl, sym, ap, subst, arith}
use Rattle.std.specs.List.{All, filter, slice_split, position_or_len, before_first, after_first}
use Rattle.std.proofs.lemmas.Bool.{cases_lt}
use Rattle.std.proofs.lemmas.Bool.Decides.{nat_tests}
use Rattle.std.proofs.lemmas.List.{drop_more, take_all, drop_all}
use Rattle.std.proofs.lemmas.List.Splits.{slice_split-cons_yes, slice_split_first, slice_split_none}
use Rattle.std.proofs.lemmas.List.Sums.{passes_at_first, fails_before_first}
use Rattle.scrib_script_reader.specs.Fields.{fields, is_blank, has_bytes}
use Rattle.scrib_labels.specs.SessionLines.{BeginsField}

-- a blank in front of a line is in no field
skip-blank : (b : ℕ) (bs : List ℕ) → is_blank b ≡ true → fields (b ∷ bs) ≡ fields bs
unfolding fields
skip-blank b bs h = ap (filter has_bytes) (slice_split-cons_yes is_blank b bs h)

-- nor is a blank at an offset
pub skip_at : (line : List ℕ) (at : ℕ) → at < length line → is_blank (get_or line at 0) ≡ true → fields (drop at line) ≡ fields (drop (at + 1) line)
skip_at line at h b = ap fields (drop_more line at 0 h) ∙ skip-blank (get_or line at 0) (drop (at + 1) line) b

pub begins_at : (line : List ℕ) (at : ℕ) → at < length line → is_blank (get_or line at 0) ≡ false → BeginsField (drop at line)
begins_at line at h b = subst BeginsField (sym (drop_more line at 0 h)) b

-- ---- the first field

-- a first part that has bytes is a field
kept-part : (part : List ℕ) (parts : List (List ℕ)) → has_bytes part ≡ true → filter has_bytes (part ∷ parts) ≡ part ∷ filter has_bytes parts
kept-part part parts h = ap (λ (t : Bool). cond t (part ∷ filter has_bytes parts) (filter has_bytes parts)) h

-- what is before the first blank has bytes, where no blank comes first
front-has_bytes : (x : ℕ) (xs : List ℕ) (n : ℕ) → has_bytes (take (suc n) (x ∷ xs)) ≡ true
front-has_bytes x xs n = grind (arith, nat_tests)

starts-apart : (x : ℕ) (xs : List ℕ) → is_blank x ≡ false → position_or_len is_blank (x ∷ xs) ≡ suc (position_or_len is_blank xs)
starts-apart x xs h = rw h (omega arith)

module _ (x : ℕ) (xs : List ℕ) (h : is_blank x ≡ false) where
  front-kept : has_bytes (take (position_or_len is_blank (x ∷ xs)) (x ∷ xs)) ≡ true
  front-kept = subst (λ (n : ℕ). has_bytes (take n (x ∷ xs)) ≡ true) (sym (starts-apart x xs h)) (front-has_bytes x xs (position_or_len is_blank xs))

  -- a blank is behind it
  cut-before : position_or_len is_blank (x ∷ xs) < length (x ∷ xs) → fields (x ∷ xs) ≡ take (position_or_len is_blank (x ∷ xs)) (x ∷ xs) ∷ fields (drop (position_or_len is_blank (x ∷ xs)) (x ∷ xs))
  unfolding fields
  cut-before some =
      ap (filter has_bytes) (slice_split_first is_blank (x ∷ xs) 0 some)
      ∙ kept-part (before_first is_blank (x ∷ xs)) (slice_split is_blank (after_first is_blank (x ∷ xs))) front-kept
      ∙ ap (λ (fs : List (List ℕ)). take (position_or_len is_blank (x ∷ xs)) (x ∷ xs) ∷ fs) (sym (skip_at (x ∷ xs) (position_or_len is_blank (x ∷ xs)) some (passes_at_first is_blank (x ∷ xs) 0 some)))

  -- nothing is
  cut-all : length (x ∷ xs) ≤ position_or_len is_blank (x ∷ xs) → fields (x ∷ xs) ≡ take (position_or_len is_blank (x ∷ xs)) (x ∷ xs) ∷ fields (drop (position_or_len is_blank (x ∷ xs)) (x ∷ xs))
  unfolding fields
  cut-all all =
      let none : All (λ b. is_blank b ≡ false) (x ∷ xs) = λ k d l. fails_before_first is_blank (x ∷ xs) k d (omega (arith, l, all)) in
      let some : has_bytes (x ∷ xs) ≡ true = grind (arith, nat_tests) in
      let one : fields (x ∷ xs) ≡ (x ∷ xs) ∷ [] = ap (filter has_bytes) (slice_split_none is_blank (x ∷ xs) none) ∙ kept-part (x ∷ xs) [] some in
      let front : take (position_or_len is_blank (x ∷ xs)) (x ∷ xs) ≡ x ∷ xs = take_all (position_or_len is_blank (x ∷ xs)) (x ∷ xs) all in
      let back : fields (drop (position_or_len is_blank (x ∷ xs)) (x ∷ xs)) ≡ [] = ap fields (drop_all (position_or_len is_blank (x ∷ xs)) (x ∷ xs) all) in
      one ∙ sym (ap (λ (t : List ℕ). t ∷ fields (drop (position_or_len is_blank (x ∷ xs)) (x ∷ xs))) front ∙ ap (λ (fs : List (List ℕ)). (x ∷ xs) ∷ fs) back)

-- what is before the first blank is the first field
pub first_cut : (bytes : List ℕ) → length bytes ≢ 0 → BeginsField bytes → fields bytes ≡ take (position_or_len is_blank bytes) bytes ∷ fields (drop (position_or_len is_blank bytes) bytes)
first_cut [] some h = absurd (some refl)
first_cut (x ∷ xs) some h = elim (cases_lt (position_or_len is_blank (x ∷ xs)) (length (x ∷ xs))) [
  | inl before ↦ cut-before x xs h before
  | inr all ↦ cut-all x xs h all
]

pub no_fields : fields [] ≡ []
unfolding fields
no_fields = refl
