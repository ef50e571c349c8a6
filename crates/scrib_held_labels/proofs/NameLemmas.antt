-- The numbers of names behind one step and behind two.
use Rattle.std.proofs.Common.{◌≡◌, ◌⊎◌, ℕ, Bool, true, false, cond, List, Option, Some, None, inl, inr, refl, sym, ap, subst, ◌∙◌}
use Rattle.std.specs.Map.{update}
use Rattle.std.specs.Str.{bytes_eq}
use Rattle.std.proofs.lemmas.Slice.Eq.{bytes_eq-Decides}
use Rattle.scrib_labels.specs.declared.session_names.SessionNames.{SessionNames}
use Rattle.scrib_labels.specs.Naming.{number_of}
use Rattle.scrib_labelled.specs.LabelledRuns.{IsNumberIn, Naming}
use Rattle.scrib_labelled.specs.NamedLines.{IsNumbersOf}
use Rattle.scrib_held_labels.specs.HeldRuns.{KeepsNames, with_session}

-- what two steps keep
pub keeps_both : (first mid last : Naming) (over gone : ℕ → Type 0) → ((id : ℕ) → gone id → over id)
    → KeepsNames first mid over → KeepsNames mid last gone → KeepsNames first last over
keeps_both first mid last over gone g k l name = elim (l name) [
  | inl same ↦ elim (k name) [
    | inl as_first ↦ inl (same ∙ as_first)
    | inr none ↦ inr (same ∙ none.0, none.1)
  ]
  | inr none ↦ elim (k name) [
    | inl as_first ↦ inr (none.0, λ id q. g id (none.1 id (as_first ∙ q)))
    | inr before ↦ inr (none.0, before.1)
  ]
]

-- the number of a line's name is one in the sense of its definition
pub number_in : (names : SessionNames) (session : Option (List ℕ × ℕ)) → IsNumbersOf names session → IsNumberIn (number_of names) session
number_in names None h = tt
number_in names (Some s) h = elim h.0 [
  | inl has ↦ inl has
  | inr none ↦ inr (none.0, λ other. none.2 other)
]

-- ---- one step

-- nothing changes
pub keeps_all : (names : Naming) (gone : ℕ → Type 0) → KeepsNames names names gone
keeps_all names gone name = inl refl

some_same : (a b : ℕ) → Some a ≡ Some b → a ≡ b
some_same a b e = cc

taken_one : (b : Bool) (was now : Option ℕ) (number : ℕ) (gone : ℕ → Type 0) → gone number → now ≡ cond b None was
    → (now ≡ cond b (Some number) was) ⊎ ((now ≡ None) × ((id : ℕ) → cond b (Some number) was ≡ Some id → gone id))
taken_one true was now number gone g h = inr (h, λ id q. subst gone (some_same number id q) g)
taken_one false was now number gone g h = inl h

-- the number of the line's name is taken away, where nothing is left of its conversation
pub keeps_without : (old new : Naming) (s : List ℕ × ℕ) (gone : ℕ → Type 0) → gone s.1 → ((other : List ℕ) → new other ≡ update bytes_eq old s.0 None other)
    → KeepsNames (with_session old (Some s)) new gone
keeps_without old new s gone g h name = taken_one (bytes_eq s.0 name) (old name) (new name) s.1 gone g (h name)

dropped_one : (b : Bool) (was now : Option ℕ) (number : ℕ) (gone : ℕ → Type 0) → gone number → (b ≡ true → was ≡ Some number) → now ≡ cond b None was
    → (now ≡ was) ⊎ ((now ≡ None) × ((id : ℕ) → was ≡ Some id → gone id))
dropped_one true was now number gone g same h = inr (h, λ id q. subst gone (some_same number id (sym (same refl) ∙ q)) g)
dropped_one false was now number gone g same h = inl h

-- the number of a name is
pub keeps_dropped : (old new : Naming) (name : List ℕ) (number : ℕ) (gone : ℕ → Type 0) → old name ≡ Some number → gone number → ((other : List ℕ) → new other ≡ update bytes_eq old name None other)
    → KeepsNames old new gone
keeps_dropped old new name number gone has g h other =
    dropped_one (bytes_eq name other) (old other) (new other) number gone g (λ q. ap old (sym ((bytes_eq-Decides name other).0 q)) ∙ has) (h other)
