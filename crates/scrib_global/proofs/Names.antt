-- Comparisons of names.
use Rattle.std.proofs.Common.{◌≡◌, ◌≢◌, ◌⊎◌, inl, inr, Bool, true, false, ℕ, List, refl, sym, ◌∙◌}
use Rattle.std.proofs.lemmas.Bool.{true≢false}
use Rattle.std.proofs.lemmas.Slice.Eq.{bytes_eq-Decides}
use Rattle.std.specs.Str.{bytes_eq}

pub same_name : (p q : List ℕ) → bytes_eq p q ≡ true → p ≡ q
same_name p q h = (bytes_eq-Decides p q).0 h

pub name_itself : (p : List ℕ) → bytes_eq p p ≡ true
name_itself p = (bytes_eq-Decides p p).1 refl

pub name_is : (p q : List ℕ) → p ≡ q → bytes_eq p q ≡ true
name_is p q e = (bytes_eq-Decides p q).1 e

pub not_true : (b : Bool) → (b ≡ true → ⊥) → b ≡ false
not_true true h = absurd (h refl)
not_true false h = refl

pub name_not : (p q : List ℕ) → p ≢ q → bytes_eq p q ≡ false
name_not p q n = not_true (bytes_eq p q) (λ e. n (same_name p q e))

-- two names are the same or not
pub which : (p q : List ℕ) → Dec (p ≡ q)
which p q = go (bytes_eq p q) refl
  where
    go : (b : Bool) → bytes_eq p q ≡ b → Dec (p ≡ q)
    go true e = yes (same_name p q e)
    go false e = no (λ i. true≢false (sym (name_is p q i) ∙ e))

-- not both of these are the same
abbrev pub NotPair : List ℕ → List ℕ → List ℕ → List ℕ → Type 0
NotPair a p b q = a ≡ p → b ≡ q → ⊥

pub pair_cases : (a p b q : List ℕ) → ((a ≡ p) × (b ≡ q)) ⊎ NotPair a p b q
pair_cases a p b q = go (which a p) (which b q)
  where
    go : Dec (a ≡ p) → Dec (b ≡ q) → ((a ≡ p) × (b ≡ q)) ⊎ NotPair a p b q
    go (yes e) (yes f) = inl (e, f)
    go (yes e) (no f) = inr (λ x y. f y)
    go (no e) f = inr (λ x y. e x)
