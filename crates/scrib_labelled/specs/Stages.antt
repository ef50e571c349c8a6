-- What a stage does with the entries of a script with labels (this project's own).
use Rattle.std.specs.Prelude.{◌≡◌, ◌⊎◌, ℕ, List, [], ◌∷◌, ◌++◌}
use Rattle.scrib_script_reader.specs.declared.entry.Entry.{Entry}
use Rattle.scrib_labelled.specs.LabelledEntries.{LabelledEntry}
use Rattle.scrib_labelled.specs.LabelledLines.{LineLabel}

-- what a stage came to: from the first stage, which took no entry, to another, with these entries and this output
abbrev pub StageRelation : Type 0 → Type 1
StageRelation S = S → S → List LabelledEntry → (output : List ℕ) → Type 0

-- what is said of an output for these entries of a first stage
abbrev pub OutputRelation : Type 0 → Type 1
OutputRelation S = S → List LabelledEntry → (output : List ℕ) → Type 0

-- the stage took the entry of a line with this label, and gathered what it gives for it
pub record TakesEntry {S : Type 0} (Took : StageRelation S) (gathered : S → List ℕ) (old new : S) (label : LineLabel)
    (e : Entry) : Type 0 where
  pub more : List ℕ
  pub grows : gathered new ≡ gathered old ++ more
  pub took : (first : S) (entries : List LabelledEntry) (out : List ℕ) → Took first old entries out
      → Took first new (entries ++ (label, e) ∷ []) (out ++ more)

-- The stage failed at the entry, and gathered a part. With the output so far it is a part of what the entries before
-- give, or of what they give with this one.
pub record FailsEntry {S : Type 0} (Took : StageRelation S) (Part : OutputRelation S) (gathered : S → List ℕ)
    (old new : S) (label : LineLabel) (e : Entry) : Type 0 where
  pub more : List ℕ
  pub grows : gathered new ≡ gathered old ++ more
  pub part : (first : S) (entries : List LabelledEntry) (out : List ℕ) → Took first old entries out
      → Part first entries (out ++ more) ⊎ Part first (entries ++ (label, e) ∷ []) (out ++ more)

-- the stage took the end of its script, and gathered what it gives for it
pub record TakesEnd {S : Type 0} (Took TookAll : StageRelation S) (gathered : S → List ℕ) (old new : S) : Type 0 where
  pub more : List ℕ
  pub grows : gathered new ≡ gathered old ++ more
  pub took : (first : S) (entries : List LabelledEntry) (out : List ℕ) → Took first old entries out
      → TookAll first new entries (out ++ more)

-- the stage failed at the end of its script, and gathered a part
pub record FailsEnd {S : Type 0} (Took : StageRelation S) (Part : OutputRelation S) (gathered : S → List ℕ)
    (old new : S) : Type 0 where
  pub more : List ℕ
  pub grows : gathered new ≡ gathered old ++ more
  pub part : (first : S) (entries : List LabelledEntry) (out : List ℕ) → Took first old entries out
      → Part first entries (out ++ more)

-- what holds of the stage still holds: only what is gathered has changed
abbrev pub Keeps : {S : Type 0} → StageRelation S → (old new : S) → Type 0
Keeps {S} Took old new =
    (first : S) (entries : List LabelledEntry) (out : List ℕ) → Took first old entries out → Took first new entries out
