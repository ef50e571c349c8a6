-- The hash of a list that has four bytes or more.
use Rattle.std.proofs.Common.{◌≡◌, ℕ, ◌-◌, ◌≤◌, List, [], ◌∷◌, length, get_or, take, drop, ap, ◌∙◌, arith}
use Rattle.std.proofs.lemmas.List.{take_all}
use Rattle.scrib_types.specs.Hashing.{mix, word_of, hash_bytes}

pub next_word : (h : ℕ) (xs : List ℕ) (n w k : ℕ) → 4 ≤ length xs → n ≡ length xs → w ≡ word_of (get_or xs 0 0) (get_or xs 1 0) (get_or xs 2 0) (get_or xs 3 0) → k ≡ mix h w → hash_bytes k (take (n - 4) (drop 4 xs)) ≡ hash_bytes h xs
next_word h [] n w k long all word next = absurd (omega (arith, long))
next_word h (a ∷ []) n w k long all word next = absurd (omega (arith, long))
next_word h (a ∷ b ∷ []) n w k long all word next = absurd (omega (arith, long))
next_word h (a ∷ b ∷ c ∷ []) n w k long all word next = absurd (omega (arith, long))
next_word h (a ∷ b ∷ c ∷ d ∷ xs) n w k long all word next =
    ap (hash_bytes k) (take_all (n - 4) xs (omega (arith, all))) ∙ ap (λ z. hash_bytes z xs) (next ∙ ap (mix h) word)
