-- Lines whose first two bytes begin no line that has a meaning.
use Rattle.std.proofs.Common.{◌≡◌, ◌⊎◌, inl, inr, ℕ, ◌≤◌, Bool, true, false, not, ◌==◌, List, [], ◌∷◌, length, get_or, codes, refl, sym, ap, ◌∙◌, subst, arith, if◌then◌else◌}
use Rattle.std.specs.Bool.{IsTrue}
use Rattle.std.specs.List.{filter, onto_first, slice_split}
use Rattle.std.proofs.lemmas.Bool.{false≢true, cases_Bool, or_cases}
use Rattle.std.proofs.lemmas.Bool.Decides.{Decides-eqb, nat_tests}
use Rattle.std.proofs.lemmas.List.Splits.{slice_split-cons_yes, slice_split-cons_no}
use Rattle.scrib_core.specs.declared.step.Step.{Step}
use Rattle.scrib_core.specs.declared.format.Format.TheVariants as format
use Rattle.scrib_script_reader.specs.declared.line.Line.TheVariants as line
use Rattle.scrib_script_reader.specs.Fields.{fields, is_blank, has_bytes}
use Rattle.scrib_script_reader.specs.Steps.{MakesStep}
use Rattle.scrib_script_reader.specs.Says.{Says, IsSkipped, Asks}
use Rattle.scrib_script_reader.specs.FirstBytes.{may_begin}
use Rattle.scrib_script_reader.proofs.Formats.{no_put, no_sweep, no_step}
use Rattle.scrib_script_reader.proofs.Steps.{no-edit, no-word, no-short}

-- the field is the first byte alone, or goes on with the second one
abbrev Begins : (first second : ℕ) → List ℕ → Type 0
Begins first second field = (field ≡ first ∷ []) ⊎ ((rest : List ℕ) × (field ≡ first ∷ second ∷ rest))

-- the first of the fields begins with these bytes
record HasFirst (first second : ℕ) (fs : List (List ℕ)) : Type 0 where
  field : List ℕ
  others : List (List ℕ)
  parts : fs ≡ field ∷ others
  begins : Begins first second field

-- a piece with a byte is a field
kept : (x : ℕ) (xs : List ℕ) (pieces : List (List ℕ)) → filter has_bytes ((x ∷ xs) ∷ pieces) ≡ (x ∷ xs) ∷ filter has_bytes pieces
kept x xs pieces =
    let some : has_bytes (x ∷ xs) ≡ true = grind (arith, nat_tests) in
    ap (λ t. if t then (x ∷ xs) ∷ filter has_bytes pieces else filter has_bytes pieces) some

first-two : (x y : ℕ) (pieces : List (List ℕ)) → HasFirst x y (filter has_bytes (onto_first x (onto_first y pieces)))
first-two x y [] = record { field = x ∷ y ∷ []; others = []; parts = kept x (y ∷ []) []; begins = inr ([], refl) }
first-two x y (piece ∷ pieces) = record { field = x ∷ y ∷ piece; others = filter has_bytes pieces; parts = kept x (y ∷ piece) pieces; begins = inr (piece, refl) }

first-alone : (x y : ℕ) (pieces : List (List ℕ)) → HasFirst x y (filter has_bytes (onto_first x ([] ∷ pieces)))
first-alone x y pieces = record { field = x ∷ []; others = filter has_bytes pieces; parts = kept x [] pieces; begins = inl refl }

-- a line whose first byte is no blank
first-field : (x y : ℕ) (rest : List ℕ) → is_blank x ≡ false → HasFirst x y (fields (x ∷ y ∷ rest))
unfolding fields
first-field x y rest never =
    let P : List (List ℕ) → Type 0 = λ pieces. HasFirst x y (filter has_bytes pieces) in
    let Q : List (List ℕ) → Type 0 = λ pieces. P (onto_first x pieces) in
    subst P (sym (slice_split-cons_no is_blank x (y ∷ rest) never)) (elim (cases_Bool (is_blank y)) [
      | inl blank ↦ subst Q (sym (slice_split-cons_yes is_blank y rest blank)) (first-alone x y (slice_split is_blank rest))
      | inr other ↦ subst Q (sym (slice_split-cons_no is_blank y rest other)) (first-two x y (slice_split is_blank rest))
    ])

-- bytes that begin no line differ from those that may begin one
other-bytes : (x y a b : ℕ) → may_begin x y ≡ false → may_begin a b ≡ true → x ≡ a → y ≡ b → ⊥
other-bytes x y a b never may e f = false≢true (sym never ∙ ap (λ n. may_begin n y) e ∙ ap (may_begin a) f ∙ may)

-- a field with such first bytes is no word that begins with bytes that may begin a line
other-word : (x y a b : ℕ) (word field : List ℕ) → may_begin x y ≡ false → may_begin a b ≡ true → Begins x y field → field ≡ a ∷ b ∷ word → ⊥
other-word x y a b word field never may (inl alone) e = omega (arith, ap length (sym alone ∙ e))
other-word x y a b word field never may (inr more) e =
    let h : x ∷ y ∷ more.0 ≡ a ∷ b ∷ word = sym more.1 ∙ e in
    let first : x ≡ a = cc in
    let second : y ≡ b = cc in
    other-bytes x y a b never may first second

-- nor does it begin with a `#`
no-comment : (x y : ℕ) (field : List ℕ) (others : List (List ℕ)) → may_begin x y ≡ false → Begins x y field → IsSkipped (field ∷ others) → ⊥
no-comment x y field others never (inl alone) s =
    other-bytes x y 35 y never refl (subst (λ f. IsSkipped (f ∷ others)) alone s) refl
no-comment x y field others never (inr more) s =
    other-bytes x y 35 y never refl (subst (λ f. IsSkipped (f ∷ others)) more.1 s) refl

no-blank : (x y : ℕ) → may_begin x y ≡ false → is_blank x ≡ false
no-blank x y never = elim (cases_Bool (is_blank x)) [
  | inl blank ↦ absurd (elim (or_cases (x == 32) (x == 9) blank) [
    | inl space ↦ other-bytes x y 32 y never refl ((Decides-eqb x 32).0 space) refl
    | inr tab ↦ other-bytes x y 9 y never refl ((Decides-eqb x 9).0 tab) refl
  ])
  | inr other ↦ other
]

module _ (x y : ℕ) (never : may_begin x y ≡ false) (field : List ℕ) (begins : Begins x y field) where
  -- the fields make no step
  no-step-made : (others : List (List ℕ)) (s : Step) → MakesStep (field ∷ others) s → ⊥
  no-step-made [] s h = no-short (field ∷ []) (omega arith) s h
  no-step-made (first ∷ fs) s h = elim h [
    | inl w ↦ no-edit field first fs (other-word x y 119 105 (codes "thdraw") field never refl begins) (other-word x y 112 114 (codes "ofile") field never refl begins) s w
    | inr k ↦ no-word field k.0 fs (other-word x y 111 112 (codes "en") field never refl begins) (other-word x y 106 111 (codes "in") field never refl begins) (other-word x y 115 101 (codes "nd") field never refl begins) (other-word x y 114 101 (codes "cv") field never refl begins) (other-word x y 116 117 (codes "rn") field never refl begins) (other-word x y 97 115 (codes "k") field never refl begins) (other-word x y 99 108 (codes "ose") field never refl begins) s k.2
  ]

  -- the fields ask for no other format
  asks-line : (others : List (List ℕ)) → Asks (field ∷ others) format.Line (field ∷ others)
  asks-line others = (refl, λ more e. other-word x y 106 115 (codes "on") field never refl begins (let word : field ≡ codes "json" = cc in word))

  no-put-line : (others : List (List ℕ)) → field ∷ others ≡ codes "put" ∷ [] → ⊥
  no-put-line others e = other-word x y 112 117 (codes "t") field never refl begins (let word : field ≡ codes "put" = cc in word)

  no-sweep-line : (others : List (List ℕ)) → field ∷ others ≡ codes "sweep" ∷ [] → ⊥
  no-sweep-line others e = other-word x y 115 119 (codes "eep") field never refl begins (let word : field ≡ codes "sweep" = cc in word)

bad : (bytes : List ℕ) (x y : ℕ) → may_begin x y ≡ false → HasFirst x y (fields bytes) → Says bytes line.Bad
bad bytes x y never h =
    let fs = h.field ∷ h.others in
    let asks = asks-line x y never h.field h.begins h.others in
    inr (
      λ s. no-comment x y h.field h.others never h.begins (subst IsSkipped h.parts s),
      λ f p. no_put fs fs format.Line asks (no-put-line x y never h.field h.begins h.others) f (rw (sym h.parts) p),
      λ f p. no_sweep fs fs format.Line asks (no-sweep-line x y never h.field h.begins h.others) f (rw (sym h.parts) p),
      λ f s m. no_step fs fs format.Line asks (no-step-made x y never h.field h.begins h.others) f s (rw (sym h.parts) m),
    )

-- a line whose first two bytes begin no line that has a meaning is bad
pub first_bytes_bad : (bytes : List ℕ) → 2 ≤ length bytes → may_begin (get_or bytes 0 0) (get_or bytes 1 0) ≡ false → Says bytes line.Bad
first_bytes_bad [] two never = absurd (omega arith)
first_bytes_bad (x ∷ []) two never = absurd (omega arith)
first_bytes_bad (x ∷ y ∷ rest) two never = bad (x ∷ y ∷ rest) x y never (first-field x y rest (no-blank x y never))

pub false_of_not : (b : Bool) → IsTrue (not b) → b ≡ false
false_of_not false h = refl
false_of_not true h = absurd (false≢true h)
