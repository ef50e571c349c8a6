-- Two lists of bytes that begin alike.
use Rattle.std.proofs.Common.{◌≡◌, ◌≤◌, ℕ, ◌-◌, List, ◌++◌, ◌∙◌, sym, ap, take, drop, length, arith}
use Rattle.std.proofs.lemmas.List.{take-append-drop, take-append-le, drop-take, length-drop, length-take-le}
use Rattle.std.proofs.Math.Seq.{take-length}

-- what a slice from the index on has
pub from_index : (n : ℕ) (xs : List ℕ) → take (length xs - n) (drop n xs) ≡ drop n xs
from_index n xs = ap (λ (k : ℕ). take k (drop n xs)) (sym (length-drop n xs)) ∙ take-length (drop n xs)

front : (xs : List ℕ) → 16 ≤ length xs → take 8 (take 16 xs) ≡ take 8 xs
front xs long =
    let enough : 8 ≤ length (take 16 xs) = omega (arith, length-take-le 16 xs long) in
    sym (take-append-le 8 (take 16 xs) (drop 16 xs) enough) ∙ ap (λ (ys : List ℕ). take 8 ys) (take-append-drop 16 xs)

halves : (xs : List ℕ) → 16 ≤ length xs → take 16 xs ≡ take 8 xs ++ take 8 (drop 8 xs)
halves xs long =
    sym (take-append-drop 8 (take 16 xs))
    ∙ ap (λ (ys : List ℕ). ys ++ drop 8 (take 16 xs)) (front xs long)
    ∙ ap (λ (ys : List ℕ). take 8 xs ++ ys) (drop-take 8 8 xs)

-- 16 bytes are the same exactly where the first eight are and the second
pub both_halves : (xs ys : List ℕ) → 16 ≤ length xs → 16 ≤ length ys → take 8 xs ≡ take 8 ys → take 8 (drop 8 xs) ≡ take 8 (drop 8 ys) → take 16 xs ≡ take 16 ys
both_halves xs ys long_x long_y first second =
    halves xs long_x
    ∙ ap (λ (zs : List ℕ). zs ++ take 8 (drop 8 xs)) first
    ∙ ap (λ (zs : List ℕ). take 8 ys ++ zs) second
    ∙ sym (halves ys long_y)

pub second_half : (xs ys : List ℕ) → take 16 xs ≡ take 16 ys → take 8 (drop 8 xs) ≡ take 8 (drop 8 ys)
second_half xs ys same = sym (drop-take 8 8 xs) ∙ ap (λ (zs : List ℕ). drop 8 zs) same ∙ drop-take 8 8 ys

pub first_half : (xs ys : List ℕ) → 16 ≤ length xs → 16 ≤ length ys → take 16 xs ≡ take 16 ys → take 8 xs ≡ take 8 ys
first_half xs ys long_x long_y same = sym (front xs long_x) ∙ ap (λ (zs : List ℕ). take 8 zs) same ∙ front ys long_y

-- what is left of two lists that begin alike
pub left_alike : (n : ℕ) (xs ys : List ℕ) → length xs ≡ length ys → length (take (length xs - n) (drop n xs)) ≡ length (take (length ys - n) (drop n ys))
left_alike n xs ys same =
    ap (λ (zs : List ℕ). length zs) (from_index n xs)
    ∙ length-drop n xs
    ∙ ap (λ (k : ℕ). k - n) same
    ∙ sym (length-drop n ys)
    ∙ ap (λ (zs : List ℕ). length zs) (sym (from_index n ys))

pub left_same : (n : ℕ) (xs ys : List ℕ) → take n xs ≡ take n ys → take (length xs - n) (drop n xs) ≡ take (length ys - n) (drop n ys) → xs ≡ ys
left_same n xs ys first rest =
    let dropped : drop n xs ≡ drop n ys = sym (from_index n xs) ∙ rest ∙ from_index n ys in
    sym (take-append-drop n xs) ∙ ap (λ (u : List ℕ). u ++ drop n xs) first ∙ ap (λ (u : List ℕ). take n ys ++ u) dropped ∙ take-append-drop n ys

pub left_of_same : (n : ℕ) (xs ys : List ℕ) → xs ≡ ys → take (length xs - n) (drop n xs) ≡ take (length ys - n) (drop n ys)
left_of_same n xs ys same = ap (λ (u : List ℕ). take (length u - n) (drop n u)) same
