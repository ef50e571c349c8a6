-- What scripts with labels write with their events held back (this project's own).
use Rattle.std.specs.Prelude.{◌≡◌, ◌⊎◌, ℕ, List, [], ◌∷◌, ◌++◌, Option}
use Rattle.scrib_core.specs.Answers.{State}
use Rattle.scrib_script_reader.specs.Scripts.{lines}
use Rattle.scrib_hold_stage.specs.declared.stage.Counts.{Counts}
use Rattle.scrib_hold.specs.NumberedItems.{AreAllItems, AreFirstItems, Numbered}
use Rattle.scrib_labelled.specs.declared.label_options.LabelledStyle.{LabelledStyle}
use Rattle.scrib_labelled.specs.LabelledEntries.{LabelledEntry, SpellsLabelledEntries, all_entries}
use Rattle.scrib_labelled.specs.LabelledRuns.{IsNumberIn, Naming}
use Rattle.scrib_labelled.specs.LabelledScripts.{LabelledText}
use Rattle.scrib_held_labels.specs.HeldRuns.{Carries, HeldRuns, label_at, plain}

-- The entries are all of a script, and this is the output: they are taken one after another, and then what still waits
-- is let out. The counts are of the script's events, and of those that expired before its end.
pub record AreAllHeld (o : LabelledStyle) (bound : ℕ) (entries : List LabelledEntry) (counts : Counts)
    (output : List ℕ) : Type 0 where
  pub numbered : List Numbered
  pub names : Naming
  pub state : State
  pub out : List ℕ
  pub runs : HeldRuns o bound entries numbered names state out
  pub last : List Numbered
  pub after : State
  pub more : List ℕ
  pub all : AreAllItems bound (plain entries) counts (numbered ++ last)
  pub carried : Carries o (label_at entries) last state after more
  pub is : output ≡ out ++ more

-- the number of the name of the next entry, if one follows, is that of the name, or one that no name has
abbrev pub IsNextNumber : Naming → List LabelledEntry → Type 0
IsNextNumber names [] = Unit {0}
IsNextNumber names (e ∷ later) = IsNumberIn names e.0.session

-- The part is a beginning of what these entries give: some first entries are taken, and some first items of those that
-- the others let out are carried out.
pub record IsHeldPartOf (o : LabelledStyle) (bound : ℕ) (entries : List LabelledEntry) (part : List ℕ) : Type 0 where
  pub taken : List LabelledEntry
  pub later : List LabelledEntry
  pub are : entries ≡ taken ++ later
  pub numbered : List Numbered
  pub names : Naming
  pub state : State
  pub out : List ℕ
  pub runs : HeldRuns o bound taken numbered names state out
  pub number : IsNextNumber names later
  pub given : List Numbered
  pub after : State
  pub more : List ℕ
  pub first : AreFirstItems bound (plain entries) (numbered ++ given)
  pub carried : Carries o (label_at entries) given state after more
  pub rest : List ℕ
  pub begins : out ++ more ≡ part ++ rest

-- An output of a script with labels whose events are held back, none for longer than the bound, and the counts of its
-- events. What is written for an item is what a script with numbers and without tags gives for it, with the label of
-- its line put back.
abbrev pub IsHeldLabelledOutput : LabelledStyle → (bound : ℕ) → (input : List ℕ) → Counts → (output : List ℕ) → Type 0
IsHeldLabelledOutput o bound input counts output =
    (n : ℕ) × (unended : Option LabelledText) × (entries : List LabelledEntry)
    × SpellsLabelledEntries o.labels (lines input) n unended entries
    × AreAllHeld o bound (all_entries unended entries) counts output

-- the part is a beginning of what some first lines of the script give, or of what all of it gives
pub record IsHeldLabelledPart (o : LabelledStyle) (bound : ℕ) (input part : List ℕ) : Type 0 where
  pub first : List (List ℕ)
  pub later : List (List ℕ)
  pub is : lines input ≡ first ++ later
  pub number : ℕ
  pub unended : Option LabelledText
  pub entries : List LabelledEntry
  pub spells : SpellsLabelledEntries o.labels first number unended entries
  pub taken : List LabelledEntry
  pub these : (taken ≡ entries) ⊎ ((later ≡ []) × (taken ≡ all_entries unended entries))
  pub part_is : IsHeldPartOf o bound taken part
