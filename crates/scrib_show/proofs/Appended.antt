-- A text that is appended to one that is appended before.
use Rattle.std.proofs.Common.{◌≡◌, ℕ, List, ◌++◌, ◌∙◌, ap, append_assoc}

pub behind : (a b c y z : List ℕ) → b ≡ a ++ y → c ≡ b ++ z → c ≡ a ++ (y ++ z)
behind a b c y z first then = then ∙ ap (λ (t : List ℕ). t ++ z) first ∙ append_assoc a y z
