-- Bytes written one after the other.
use Rattle.std.proofs.Common.{◌≡◌, ℕ, List, [], ◌∷◌, ◌++◌, ap, ◌∙◌, append_assoc}

pub tagged : (x y z s : List ℕ) (k : ℕ) → y ≡ x ++ k ∷ [] → z ≡ y ++ s → z ≡ x ++ k ∷ s
tagged x y z s k p q = q ∙ ap (λ t. t ++ s) p ∙ append_assoc x (k ∷ []) s

pub tagged_three : (x y z v w a b c : List ℕ) (k : ℕ) → y ≡ x ++ k ∷ [] → z ≡ y ++ a → v ≡ z ++ b → w ≡ v ++ c → w ≡ x ++ ((k ∷ a) ++ (b ++ c))
tagged_three x y z v w a b c k p q r s =
    s ∙ ap (λ t. t ++ c) (r ∙ ap (λ t. t ++ b) (tagged x y z a k p q)) ∙ append_assoc (x ++ k ∷ a) b c ∙ append_assoc x (k ∷ a) (b ++ c)
