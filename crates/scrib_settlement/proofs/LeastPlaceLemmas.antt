-- The first mismatch, for several kinds of places.
use Rattle.std.proofs.Common.{◌≡◌, ◌<◌, ◌≤◌, ◌∙◌, ◌⊎◌, inl, inr, ℕ, true, false, Option, Some, None, refl, sym, arith, eq-eqb, ne_eqb, lt-ltb, le-ltb}
use Rattle.std.proofs.lemmas.Bool.{cases_lt, cases_order}
use Rattle.scrib_settlement.specs.Mismatches.{IsBefore, IsLeast, is_before, earlier_of}
use Rattle.scrib_settlement.specs.Tallies.{placed_in}
use Rattle.scrib_settlement.specs.declared.mismatch_place.MismatchPlace.{MismatchPlace}

-- not before the other place
abbrev IsNotBefore : MismatchPlace → MismatchPlace → Type 0
IsNotBefore b a = (a.conversation < b.conversation) ⊎ ((a.conversation ≡ b.conversation) × (a.place ≤ b.place))

before_tells : (b a : MismatchPlace) → ((is_before b a ≡ true) × IsBefore b.conversation b.place a) ⊎ ((is_before b a ≡ false) × IsNotBefore b a)
before_tells b a = elim (cases_order b.conversation a.conversation) [
  | inl same ↦ (elim (cases_lt b.place a.place) [
    | inl less ↦ inl (rw (le-ltb b.conversation a.conversation (omega arith), eq-eqb b.conversation a.conversation same, lt-ltb b.place a.place less) refl, inr (same, less))
    | inr more ↦ inr (rw (le-ltb b.conversation a.conversation (omega arith), eq-eqb b.conversation a.conversation same, le-ltb b.place a.place more) refl, inr (sym same, more))
  ])
  | inr differ ↦ (elim differ [
    | inl less ↦ inl (rw (lt-ltb b.conversation a.conversation less) refl, inl less)
    | inr more ↦ inr (rw (le-ltb b.conversation a.conversation (omega arith), ne_eqb b.conversation a.conversation (λ e. absurd (omega (arith, e, more)))) refl, inl more)
  ])
]

before_earlier : (i n : ℕ) (b a : MismatchPlace) → IsBefore i n b → IsBefore b.conversation b.place a → IsBefore i n a
before_earlier i n b a (inl p) (inl q) = inl (omega arith)
before_earlier i n b a (inl p) (inr q) = inl (omega (arith, q.0))
before_earlier i n b a (inr p) (inl q) = inl (omega (arith, p.0))
before_earlier i n b a (inr p) (inr q) = inr (p.0 ∙ q.0, omega (arith, p.1, q.1))

before_later : (i n : ℕ) (b a : MismatchPlace) → IsBefore i n a → IsNotBefore b a → IsBefore i n b
before_later i n b a (inl p) (inl q) = inl (omega arith)
before_later i n b a (inl p) (inr q) = inl (omega (arith, q.0))
before_later i n b a (inr p) (inl q) = inl (omega (arith, p.0))
before_later i n b a (inr p) (inr q) = inr (p.0 ∙ q.0, omega (arith, p.1, q.1))

-- the lesser of the first mismatches of two kinds is that of both kinds
pub least_both : (S T : ℕ → ℕ → Type 0) (a b : Option MismatchPlace) → IsLeast S a → IsLeast T b → IsLeast (λ i n. S i n × T i n) (earlier_of a b)
least_both S T None None s t = λ i n. (s i n, t i n)
least_both S T None (Some b) s t = (λ both. t.0 both.1, λ i n before. (s i n, t.1 i n before))
least_both S T (Some a) None s t = (λ both. s.0 both.0, λ i n before. (s.1 i n before, t i n))
least_both S T (Some a) (Some b) s t = elim (before_tells b a) [
  | inl earlier ↦ rw earlier.0 ((λ both. t.0 both.1, λ i n before. (s.1 i n (before_earlier i n b a before earlier.1), t.1 i n before)))
  | inr later ↦ rw later.0 ((λ both. s.0 both.0, λ i n before. (s.1 i n before, t.1 i n (before_later i n b a before later.1))))
]

-- the case of two kinds with the same agreeing places
pub least_same : (S T : ℕ → ℕ → Type 0) (o : Option MismatchPlace) → ((i n : ℕ) → S i n → T i n) → ((i n : ℕ) → T i n → S i n) → IsLeast S o → IsLeast T o
least_same S T None to from s = λ i n. to i n (s i n)
least_same S T (Some d) to from s = (λ t. s.0 (from d.conversation d.place t), λ i n before. to i n (s.1 i n before))

-- the first mismatch of one log
abbrev pub IsFirst : (ℕ → Type 0) → Option ℕ → Type 0
IsFirst S None = (n : ℕ) → S n
IsFirst S (Some p) = (S p → ⊥) × ((n : ℕ) → n < p → S n)

pub least_one : (S : ℕ → Type 0) (id : ℕ) (o : Option ℕ) → IsFirst S o → IsLeast (λ i n. i ≡ id → S n) (placed_in id o)
least_one S id None all = λ i n e. all n
least_one S id (Some p) first = (λ agrees. first.0 (agrees refl), λ i n before e. by i n before e)
  where
    by : (i n : ℕ) → (i < id) ⊎ ((i ≡ id) × (n < p)) → i ≡ id → S n
    by i n (inl less) e = absurd (omega (arith, less, e))
    by i n (inr same) e = first.1 n same.1

-- the first mismatch is unique
pub least_only : (S : ℕ → ℕ → Type 0) (d e : MismatchPlace) → IsLeast S (Some d) → IsLeast S (Some e) → (d.conversation ≡ e.conversation) × (d.place ≡ e.place)
least_only S d e s t = elim (cases_order d.conversation e.conversation) [
  | inl same ↦ (elim (cases_order d.place e.place) [
    | inl here ↦ (same, here)
    | inr differ ↦ (elim differ [
      | inl less ↦ absurd (s.0 (t.1 d.conversation d.place (inr (same, less))))
      | inr more ↦ absurd (t.0 (s.1 e.conversation e.place (inr (sym same, more))))
    ])
  ])
  | inr differ ↦ (elim differ [
    | inl less ↦ absurd (s.0 (t.1 d.conversation d.place (inl less)))
    | inr more ↦ absurd (t.0 (s.1 e.conversation e.place (inl more)))
  ])
]
