-- What the first line of a script gives, and the entries of its further lines.
use Rattle.std.proofs.Common.{◌≡◌, ◌≢◌, ◌∙◌, ◌+◌, ◌⊎◌, ℕ, List, [], ◌∷◌, Option, Some, None, take, length, refl, sym, ap, subst, inl, inr, arith}
use Rattle.std.specs.Prelude.{codes}
use Rattle.scrib_core.specs.declared.format.Format.{Format}
use Rattle.scrib_core.specs.declared.format.Format.TheVariants as format
use Rattle.scrib_core.specs.declared.step.Step.{Step}
use Rattle.scrib_core.specs.declared.step.Step.TheVariants.{Put}
use Rattle.scrib_script_reader.specs.declared.line.Line.TheVariants as line
use Rattle.scrib_script_reader.specs.declared.item.Item.TheVariants as item
use Rattle.scrib_script_reader.specs.declared.entry.Entry.{Entry}
use Rattle.scrib_script_reader.specs.declared.entry.Entry.TheVariants as entry
use Rattle.scrib_script_reader.specs.Fields.{fields}
use Rattle.scrib_script_reader.specs.Steps.{MakesStep}
use Rattle.scrib_script_reader.specs.Says.{Says, IsSkipped, Asks, Puts, Sweeps, MakesIn}
use Rattle.scrib_script_reader.specs.Scripts.{Text, empty_text, with_line, bare, text_end}
use Rattle.scrib_script_reader.specs.Entries.{SpellsEntries, ends, skips, makes, sweeps, is_bad, begins, goes_on, puts, stops}

-- what a line outside module texts says of its entry
abbrev pub LineGives : List ℕ → Entry → Type 0
LineGives bytes entry.Skipped = Says bytes line.Skipped
LineGives bytes (entry.Item (item.Step f s)) = Says bytes (line.Step f s)
LineGives bytes (entry.Item (item.Sweep f)) = Says bytes (line.Sweep f)
LineGives bytes (entry.Item (item.BadLine n)) = Says bytes line.Bad
LineGives bytes (entry.Item item.EndOfText) = ⊥

-- the first line gives the first entry, or begins a module text
abbrev pub Outside : ℕ → List ℕ → List (List ℕ) → List Entry → Type 0
Outside n l ls all =
    ((e : Entry) × (more : List Entry) × (all ≡ e ∷ more) × LineGives (bare l) e × SpellsEntries (n + 1) None ls more)
    ⊎ ((f : Format) × Says (bare l) (line.Put f) × SpellsEntries (n + 1) (Some (empty_text f)) ls all)

-- the entry of a module text
abbrev pub put_entry : Text → Entry
put_entry t = entry.Item (item.Step t.format (Put (take 1048577 t.bytes)))

-- the first line continues a module text, or ends it
abbrev pub Inside : ℕ → Text → List ℕ → List (List ℕ) → List Entry → Type 0
Inside n t l ls all =
    ((bare l ≢ text_end) × SpellsEntries (n + 1) (Some (with_line t l)) ls all)
    ⊎ ((bare l ≡ text_end) × ((more : List Entry) × (all ≡ put_entry t ∷ more) × SpellsEntries (n + 1) None ls more))

abbrev pub Inverts : ℕ → Option Text → List (List ℕ) → List Entry → Type 0
Inverts n None [] all = all ≡ []
Inverts n None (l ∷ ls) all = Outside n l ls all
Inverts n (Some t) [] all = all ≡ entry.Item item.EndOfText ∷ []
Inverts n (Some t) (l ∷ ls) all = Inside n t l ls all

pub inverts : {n : ℕ} {text : Option Text} {ls : List (List ℕ)} {all : List Entry} → SpellsEntries n text ls all → Inverts n text ls all
inverts (ends n) = refl
inverts (skips n l ls es says more) = inl (entry.Skipped, es, refl, says, more)
inverts (makes n l ls es f s says more) = inl (entry.Item (item.Step f s), es, refl, says, more)
inverts (sweeps n l ls es f says more) = inl (entry.Item (item.Sweep f), es, refl, says, more)
inverts (is_bad n l ls es says more) = inl (entry.Item (item.BadLine n), es, refl, says, more)
inverts (begins n l ls es f says more) = inr (f, says, more)
inverts (goes_on n t l ls es ne more) = inl (ne, more)
inverts (puts n t l ls es e more) = inr (e, (es, refl, more))
inverts (stops n t) = refl

-- ---- one line gives one entry

one_outside : (n : ℕ) (l : List ℕ) (all : List Entry) → Outside n l [] all → length all ≡ 1
one_outside n l all (inl h) =
    let none : h.1 ≡ [] = inverts h.4 in
    ap length h.2 ∙ ap (λ (es : List Entry). length (h.0 ∷ es)) none
one_outside n l all (inr h) = ap length (inverts h.2)

one_inside : (n : ℕ) (t : Text) (l : List ℕ) (all : List Entry) → Inside n t l [] all → length all ≡ 1
one_inside n t l all (inl h) = ap length (inverts h.1)
one_inside n t l all (inr h) =
    let none : h.1.0 ≡ [] = inverts h.1.2 in
    ap length h.1.1 ∙ ap (λ (es : List Entry). length (put_entry t ∷ es)) none

pub one_line : (n : ℕ) (text : Option Text) (l : List ℕ) (all : List Entry) → SpellsEntries n text (l ∷ []) all → length all ≡ 1
one_line n None l all h = one_outside n l all (inverts h)
one_line n (Some t) l all h = one_inside n t l all (inverts h)

-- ---- a line that begins a module text gives no entry

skipped_put : (fs : List (List ℕ)) (f : Format) → IsSkipped fs → Puts fs f → ⊥
skipped_put fs format.Line s p = let b : 112 ≡ 35 = subst IsSkipped (sym p.1.0 ∙ p.2) s in absurd (omega (arith, b))
skipped_put fs format.Json s p = let b : 106 ≡ 35 = subst IsSkipped p.1 s in absurd (omega (arith, b))

-- the fields after the format are the same
same_tail : (a : List ℕ) (xs ys : List (List ℕ)) → a ∷ xs ≡ a ∷ ys → xs ≡ ys
same_tail a xs ys e = cc

same_rest : (fs x y : List (List ℕ)) (f g : Format) → Asks fs f x → Asks fs g y → x ≡ y
same_rest fs x y format.Line format.Line a b = a.0 ∙ sym b.0
same_rest fs x y format.Line format.Json a b = absurd (a.1 y b)
same_rest fs x y format.Json format.Line a b = absurd (b.1 x a)
same_rest fs x y format.Json format.Json a b = same_tail (codes "json") x y (sym a ∙ b)

step_put : (fs : List (List ℕ)) (f g : Format) (s : Step) → MakesIn fs f s → Puts fs g → ⊥
step_put fs f g s m p = subst (λ (r : List (List ℕ)). MakesStep r s) (same_rest fs m.0 p.0 f g m.1 p.1 ∙ p.2) m.2

sweep_put : (fs : List (List ℕ)) (f g : Format) → Sweeps fs f → Puts fs g → ⊥
sweep_put fs f g s p = let e : codes "sweep" ∷ [] ≡ codes "put" ∷ [] = sym s.2 ∙ same_rest fs s.0 p.0 f g s.1 p.1 ∙ p.2 in cc

pub put_apart : (bytes : List ℕ) (e : Entry) (f : Format) → LineGives bytes e → Says bytes (line.Put f) → ⊥
put_apart bytes entry.Skipped f h p = skipped_put (fields bytes) f h.1 p.1
put_apart bytes (entry.Item (item.Step g s)) f h p = step_put (fields bytes) g f s h.1 p.1
put_apart bytes (entry.Item (item.Sweep g)) f h p = sweep_put (fields bytes) g f h.1 p.1
put_apart bytes (entry.Item (item.BadLine n)) f (inl long) p = omega (arith, long, p.0)
put_apart bytes (entry.Item (item.BadLine n)) f (inr none) p = none.1 f p.1
put_apart bytes (entry.Item item.EndOfText) f h p = h

-- ---- no line makes the step of a put

no_put_fields : (fs : List (List ℕ)) (text : List ℕ) → MakesStep fs (Put text) → ⊥
no_put_fields [] text h = h
no_put_fields (word ∷ []) text h = h
no_put_fields (word ∷ first ∷ fs) text (inl h) = h
no_put_fields (word ∷ first ∷ fs) text (inr h) = h.2

pub no_put : (bytes : List ℕ) (f : Format) (text : List ℕ) → Says bytes (line.Step f (Put text)) → ⊥
no_put bytes f text h = no_put_fields h.1.0 text h.1.2
