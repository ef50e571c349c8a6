-- The bytes of names of conversations.
use Rattle.std.proofs.Common.{◌≡◌, ◌<◌, ℕ, true, List, [], ◌∷◌, All, IsUtf8, arith, rules}
use Rattle.std.proofs.lemmas.Bool.Decides.{nat_tests}
use Rattle.std.proofs.lemmas.List.Elements.{All-nil, All-cons}
use Rattle.std.proofs.lemmas.Str.{IsUtf8-from_ascii}
use Rattle.std.proofs.lemmas.Str.Ascii.{IsAscii-from_all}
use Rattle.scrib_labels.specs.SessionNames.{all_session_bytes, is_session_byte, is_session_name}

pub name_bytes : (w : List ℕ) → is_session_name w ≡ true → all_session_bytes w ≡ true
name_bytes w h = grind (arith, nat_tests)

small-byte : (b : ℕ) → is_session_byte b ≡ true → b < 128
small-byte b h = grind (arith, nat_tests)

small-bytes : (bs : List ℕ) → all_session_bytes bs ≡ true → All (λ b. b < 128) bs
small-bytes [] h = All-nil (λ b. b < 128)
small-bytes (b ∷ bs) h = All-cons (λ b. b < 128) b bs (small-byte b (search rules)) (small-bytes bs (search rules))

-- a name is text
pub name_text : (w : List ℕ) → is_session_name w ≡ true → IsUtf8 w
name_text w h = IsUtf8-from_ascii w (IsAscii-from_all w (small-bytes w (name_bytes w h)))
