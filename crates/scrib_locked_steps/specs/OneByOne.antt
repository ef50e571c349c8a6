-- Steps made one after another for the elements of a list (this project's own).
use Rattle.std.specs.Prelude.{◌≡◌, List, [], ◌∷◌}

-- each step starts where the one before it ended, and has the reply at the same index of the second list
abbrev pub OneByOne : {S A B : Type 0} → (S → A → B → S → Type 0) → S → List A → List B → S → Type 0
OneByOne {S} {A} {B} Step s [] [] t = t ≡ s
OneByOne {S} {A} {B} Step s (a ∷ aa) (b ∷ bs) t = (u : S) × Step s a b u × OneByOne Step u aa bs t
OneByOne {S} {A} {B} Step s _ _ t = ⊥
