-- The numbers of a range that a loop has left.
use Rattle.std.proofs.Common.{◌≡◌, ℕ, suc, ◌+◌, ◌-◌, ◌<◌, ◌≤◌, [], ◌∷◌, ap, arith}
use Rattle.std.specs.List.{range_with_len}

-- at the start of the loop: all of them
pub range_all : (e n : ℕ) → e ≡ n → range_with_len 0 (e - 0) ≡ range_with_len 0 n
range_all e n is =
    let same : e - 0 ≡ n = omega (arith, is) in
    ap (range_with_len 0) same

-- in the loop: the next one, and those after it
pub range_more : (a e : ℕ) → a < e → range_with_len a (e - a) ≡ a ∷ range_with_len (a + 1) (e - (a + 1))
range_more a e within =
    let one : e - a ≡ suc (e - (a + 1)) = omega (arith, within) in
    ap (range_with_len a) one

-- at the end of the loop: none
pub range_none : (a e : ℕ) → e ≤ a → range_with_len a (e - a) ≡ []
range_none a e over =
    let none : e - a ≡ 0 = omega (arith, over) in
    ap (range_with_len a) none
