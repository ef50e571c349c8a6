-- The bytes of a number, added one after the other.
use Rattle.std.proofs.Common.{◌≡◌, ℕ, ◌/◌, ◌%◌, List, [], ◌∷◌, ◌++◌, replicate, ap, ◌∙◌, append_assoc}
use Rattle.scrib_types.specs.Flat.{number_bytes}

pub number_written : (x y z : List ℕ) (n i : ℕ) → y ≡ x ++ replicate i 255 → i ≡ n / 255 → z ≡ y ++ (n % 255) ∷ [] → z ≡ x ++ number_bytes n
unfolding number_bytes
number_written x y z n i p e q =
    q ∙ ap (λ t. t ++ (n % 255) ∷ []) (p ∙ ap (λ j. x ++ replicate j 255) e) ∙ append_assoc x (replicate (n / 255) 255) ((n % 255) ∷ [])
