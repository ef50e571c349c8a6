-- Decimal digits.
use Rattle.std.proofs.Common.{◌≡◌, ℕ, zero, suc, ◌+◌, ◌-◌, ◌*◌, ◌^◌, ◌<◌, ◌≤◌, List, [], ◌∷◌, length, get_or, sym, ◌∙◌, add-one, arith}
use Rattle.std.specs.Char.{digit_value}
use Rattle.std.specs.Str.Parse.{AllDigits}
use Rattle.std.proofs.Math.Nat.{pow-suc}
use Rattle.std.proofs.lemmas.Bool.Decides.{nat_tests}
use Rattle.scrib_script_reader.specs.Fields.{IsNumberText}

-- the bytes `0` to `9`
pub decimal : (b : ℕ) → digit_value b < 10 → (48 ≤ b) × (b ≤ 57)
decimal b h = grind (arith, nat_tests)

pub decimal_value : (b : ℕ) → 48 ≤ b → b ≤ 57 → digit_value b ≡ b - 48
decimal_value b l h = grind (arith, nat_tests)

pub digit-at : (bytes : List ℕ) (i : ℕ) → i < length bytes → AllDigits 10 bytes → digit_value (get_or bytes i 0) < 10
digit-at [] i l h = absurd (omega arith)
digit-at (b ∷ bs) zero l h = h.0
digit-at (b ∷ bs) (suc i) l h = digit-at bs i (omega arith) h.1

-- one more digit
pub power_more : (value d i : ℕ) → value < 10 ^ i → d ≤ 9 → value * 10 + d < 10 ^ (i + 1)
power_more value d i h k = rw (add-one, pow-suc) (omega arith)

pub same_number : (bytes : List ℕ) (m n : ℕ) → IsNumberText bytes m → IsNumberText bytes n → m ≡ n
same_number bytes m n h k = h.value ∙ sym k.value
