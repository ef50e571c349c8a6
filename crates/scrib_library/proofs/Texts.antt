-- The order of full names is that of their texts, since the dot comes before each byte of a name.
use Rattle.std.proofs.Common.{◌≡◌, ℕ, ◌<◌, true, ◌&&◌, List, [], ◌∷◌, ◌++◌, length, nat_lt, ◌⊎◌, inl, inr, refl, sym, ap, ◌∙◌, arith}
use Rattle.std.specs.Ordering.{nat_cmp, ordering_then}
use Rattle.std.specs.declared.cmp.Ordering.{Ordering}
use Rattle.std.specs.declared.cmp.Ordering.TheVariants.{Less, Equal, Greater}
use Rattle.std.specs.Cmp.Lexicographic.{slice_cmp}
use Rattle.std.proofs.lemmas.Bool.{and_parts}
use Rattle.std.proofs.lemmas.Bool.Decides.{nat_tests}
use Rattle.std.proofs.lemmas.Cmp.{tied_itself, nat_cmp_total}
use Rattle.std.proofs.lemmas.List.Elements.{Contains-push_cases}
use Rattle.scrib_types.specs.Names.{is_letter, is_word_byte, all_word, is_name}
use Rattle.scrib_types.specs.Texts.{after_each, dotted_text}
use Rattle.scrib_library.specs.Listed.{name_cmp}
use Rattle.scrib_library.specs.Stored.{AreNames}
use Rattle.scrib_library.proofs.Lists.{Contains-head, Contains-tail}

-- the parts of a full name
pub are_names_of : (home : List (List ℕ)) (name : List ℕ) → AreNames home → is_name name ≡ true → AreNames (home ++ name ∷ [])
are_names_of home name h e n p =
    elim (Contains-push_cases home name n p) [ inl q ↦ h n q | inr same ↦ ap is_name (sym same) ∙ e ]

-- these bytes are greater than the dot
abbrev AreLater : List ℕ → Type 0
AreLater [] = Unit {0}
AreLater (b ∷ bs) = (46 < b) × AreLater bs

later_byte : (b : ℕ) → is_word_byte b ≡ true → 46 < b
later_byte b h = grind (arith, nat_tests)

later_all : (bs : List ℕ) → all_word bs ≡ true → AreLater bs
later_all [] h = tt
later_all (b ∷ bs) h = let p = and_parts (is_word_byte b) (all_word bs) h in (later_byte b p.0, later_all bs p.1)

later_letter : (b : ℕ) → is_letter b ≡ true → 46 < b
later_letter b h = grind (arith, nat_tests)

later_name : (n : List ℕ) → is_name n ≡ true → AreLater n
later_name [] h = tt
later_name (b ∷ bs) h =
    let p = and_parts (is_letter b && all_word bs) (nat_lt (length bs) 128) h in
    let q = and_parts (is_letter b) (all_word bs) p.0 in
    (later_letter b q.0, later_all bs q.1)

-- the rest after a name: empty, or beginning with a dot
abbrev IsTail : List ℕ → Type 0
IsTail s = (s ≡ []) ⊎ ((r : List ℕ) × (s ≡ 46 ∷ r))

then_then : (o p q : Ordering) → ordering_then o (ordering_then p q) ≡ ordering_then (ordering_then o p) q
then_then Less p q = refl
then_then Equal p q = refl
then_then Greater p q = refl

dot_less : (b : ℕ) → 46 < b → nat_cmp 46 b ≡ Less
dot_less b lt = grind (arith, nat_tests)

dot_greater : (b : ℕ) → 46 < b → nat_cmp b 46 ≡ Greater
dot_greater b lt = grind (arith, nat_tests)

tail_less : (s : List ℕ) → IsTail s → (b : ℕ) (bs : List ℕ) → 46 < b → slice_cmp nat_cmp s (b ∷ bs) ≡ Less
tail_less s (inl e) b bs lt = ap (λ l. slice_cmp nat_cmp l (b ∷ bs)) e
tail_less s (inr h) b bs lt = ap (λ l. slice_cmp nat_cmp l (b ∷ bs)) h.1 ∙ ap (λ o. ordering_then o (slice_cmp nat_cmp h.0 bs)) (dot_less b lt)

tail_greater : (s : List ℕ) → IsTail s → (b : ℕ) (bs : List ℕ) → 46 < b → slice_cmp nat_cmp (b ∷ bs) s ≡ Greater
tail_greater s (inl e) b bs lt = ap (slice_cmp nat_cmp (b ∷ bs)) e
tail_greater s (inr h) b bs lt = ap (slice_cmp nat_cmp (b ∷ bs)) h.1 ∙ ap (λ o. ordering_then o (slice_cmp nat_cmp bs h.0)) (dot_greater b lt)

-- a name and the rest after it
name_first : (x y s t : List ℕ) → AreLater x → AreLater y → IsTail s → IsTail t → slice_cmp nat_cmp (x ++ s) (y ++ t) ≡ ordering_then (slice_cmp nat_cmp x y) (slice_cmp nat_cmp s t)
name_first [] [] s t lx ly hs ht = refl
name_first [] (b ∷ y) s t lx ly hs ht = tail_less s hs b (y ++ t) ly.0
name_first (a ∷ x) [] s t lx ly hs ht = tail_greater t ht a (x ++ s) lx.0
name_first (a ∷ x) (b ∷ y) s t lx ly hs ht =
    ap (ordering_then (nat_cmp a b)) (name_first x y s t lx.1 ly.1 hs ht) ∙ then_then (nat_cmp a b) (slice_cmp nat_cmp x y) (slice_cmp nat_cmp s t)

tail_of : (names : List (List ℕ)) → IsTail (after_each 46 names)
tail_of [] = inl refl
tail_of (n ∷ ns) = inr (n ++ after_each 46 ns, refl)

first_name : (n : List ℕ) (ns : List (List ℕ)) → AreNames (n ∷ ns) → AreLater n
first_name n ns h = later_name n (h n (Contains-head n ns))

other_names : (n : List ℕ) (ns : List (List ℕ)) → AreNames (n ∷ ns) → AreNames ns
other_names n ns h m p = h m (Contains-tail n ns m p)

after_cmp : (a b : List (List ℕ)) → AreNames a → AreNames b → slice_cmp nat_cmp (after_each 46 a) (after_each 46 b) ≡ name_cmp a b
after_cmp [] [] ha hb = refl
after_cmp [] (y ∷ ys) ha hb = refl
after_cmp (x ∷ xs) [] ha hb = refl
after_cmp (x ∷ xs) (y ∷ ys) ha hb =
    ap (λ o. ordering_then o (slice_cmp nat_cmp (x ++ after_each 46 xs) (y ++ after_each 46 ys))) (tied_itself nat_cmp_total 46)
    ∙ name_first x y (after_each 46 xs) (after_each 46 ys) (first_name x xs ha) (first_name y ys hb) (tail_of xs) (tail_of ys)
    ∙ ap (ordering_then (slice_cmp nat_cmp x y)) (after_cmp xs ys (other_names x xs ha) (other_names y ys hb))

some_first : (n : List ℕ) (ns : List (List ℕ)) → is_name n ≡ true → slice_cmp nat_cmp [] (n ++ after_each 46 ns) ≡ Less
some_first [] ns h = cc
some_first (b ∷ bs) ns h = refl

some_last : (n : List ℕ) (ns : List (List ℕ)) → is_name n ≡ true → slice_cmp nat_cmp (n ++ after_each 46 ns) [] ≡ Greater
some_last [] ns h = cc
some_last (b ∷ bs) ns h = refl

pub text_cmp : (a b : List (List ℕ)) → AreNames a → AreNames b → slice_cmp nat_cmp (dotted_text a) (dotted_text b) ≡ name_cmp a b
text_cmp [] [] ha hb = refl
text_cmp [] (y ∷ ys) ha hb = some_first y ys (hb y (Contains-head y ys))
text_cmp (x ∷ xs) [] ha hb = some_last x xs (ha x (Contains-head x xs))
text_cmp (x ∷ xs) (y ∷ ys) ha hb =
    name_first x y (after_each 46 xs) (after_each 46 ys) (first_name x xs ha) (first_name y ys hb) (tail_of xs) (tail_of ys)
    ∙ ap (ordering_then (slice_cmp nat_cmp x y)) (after_cmp xs ys (other_names x xs ha) (other_names y ys hb))
