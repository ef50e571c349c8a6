-- The items that wait, by role (this project's own).
use Rattle.std.specs.Prelude.{ℕ, List, refl}
use Rattle.std.specs.Coded.{Coded, code_by, coded×, coded_list, coded_ℕ}

-- the roles that were met, what waits, in order of arrival, and how many items were counted
pub record Waiters (A : Type 0) : Type 0 where
  pub roles : List (List ℕ)
  pub items : List A
  pub pushed : ℕ

-- they are stored as their parts
abbrev pub waiters_code : {A : Type 0} → Coded A → Coded (Waiters A)
waiters_code {A} c =
    code_by (List (List ℕ) × (List A × ℕ)) (coded× (coded_list (coded_list coded_ℕ)) (coded× (coded_list c) coded_ℕ))
    (λ w. (w.roles, (w.items, w.pushed))) (λ p. record { roles = p.0; items = p.1.0; pushed = p.1.1 }) (λ _. refl)
