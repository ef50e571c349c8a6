-- Sinks of numbered items (this project's own). A sink is described by two members: `carries` relates the sinks before
-- and behind one item, its number, and the output that it adds; `gathered` is the output that is not written yet.
use Rattle.std.specs.Prelude.{◌≡◌, ℕ, List, [], ◌∷◌, ◌++◌}
use Rattle.scrib_script_reader.specs.declared.item.Item.{Item}
use Rattle.scrib_hold.specs.NumberedItems.{Numbered}

-- the items are carried out, one after another, and this is their output
abbrev pub CarriesOut : {S : Type 0} → (S → S → ℕ → Item → List ℕ → Type 0) → (old new : S) → List Numbered
    → (output : List ℕ) → Type 0
CarriesOut carries old new [] output = (new ≡ old) × (output ≡ [])
CarriesOut {S} carries old new (x ∷ numbered) output =
    (mid : S) × (first : List ℕ) × (rest : List ℕ) × carries old mid x.0 x.1 first
    × CarriesOut carries mid new numbered rest × (output ≡ first ++ rest)

-- one item is carried out, and its output is gathered behind what was
abbrev pub GathersItem : {S : Type 0} → (S → S → ℕ → Item → List ℕ → Type 0) → (S → List ℕ) → (old new : S) → ℕ
    → Item → Type 0
GathersItem carries gathered old new n i =
    (more : List ℕ) × carries old new n i more × (gathered new ≡ gathered old ++ more)

-- the items are, and their output is
abbrev pub GathersItems : {S : Type 0} → (S → S → ℕ → Item → List ℕ → Type 0) → (S → List ℕ) → (old new : S)
    → List Numbered → Type 0
GathersItems carries gathered old new numbered =
    (more : List ℕ) × CarriesOut carries old new numbered more × (gathered new ≡ gathered old ++ more)

-- The items are, and the sink fails then. Their output is gathered.
abbrev pub FailsBehind : {S : Type 0} → (S → S → ℕ → Item → List ℕ → Type 0) → (S → List ℕ) → (old new : S)
    → List Numbered → Type 0
FailsBehind {S} carries gathered old new numbered =
    (left : S) × (more : List ℕ) × CarriesOut carries old left numbered more × (gathered new ≡ gathered old ++ more)

-- the sink fails behind some first items
abbrev pub FailsWithin : {S : Type 0} → (S → S → ℕ → Item → List ℕ → Type 0) → (S → List ℕ) → (old new : S)
    → List Numbered → Type 0
FailsWithin carries gathered old new numbered =
    (first : List Numbered) × (undone : List Numbered) × (numbered ≡ first ++ undone)
    × FailsBehind carries gathered old new first
