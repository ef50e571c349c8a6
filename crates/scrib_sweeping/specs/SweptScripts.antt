-- What scripts with labels write over a monitor that sweeps before each of their entries (this project's own).
use Rattle.std.specs.Prelude.{◌≡◌, ◌⊎◌, ℕ, true, false, List, [], ◌++◌, min, Option, Some, None}
use Rattle.scrib_core.specs.Answers.{State}
use Rattle.scrib_script_reader.specs.Scripts.{lines}
use Rattle.scrib_sweep.specs.Sweeps.{IsSwept}
use Rattle.scrib_labelled.specs.declared.label_options.LabelledStyle.{LabelledStyle}
use Rattle.scrib_labelled.specs.LabelledEntries.{LabelledEntry, SpellsLabelledEntries, all_entries}
use Rattle.scrib_labelled.specs.LabelledRuns.{Naming}
use Rattle.scrib_labelled.specs.LabelledScripts.{LabelledText}
use Rattle.scrib_sweeping.specs.declared.sweep_counts.SweepCounts.{SweepCounts}
use Rattle.scrib_sweeping.specs.SweptRuns.{SweptRuns, with_sweep}

-- the counts with the last sweep, which judged this many conversations, or was refused memory
abbrev pub with_last : SweepCounts → Option ℕ → SweepCounts
with_last c (Some judged) = with_sweep c judged false
with_last c None = with_sweep c 0 true

-- the counts, each up to the greatest one
abbrev pub capped : SweepCounts → SweepCounts
capped c =
    record { judged = min c.judged 18446744073709551615; refused = min c.refused 18446744073709551615 }

-- The entries are all of a script, and this is the output: they are taken one after another, and then the
-- conversations that are still stale have their turns. The counts are of all sweeps. Where the last one is refused
-- memory, none of its conversations is counted.
pub record AreAllSwept (o : LabelledStyle) (entries : List LabelledEntry) (counts : SweepCounts) (output : List ℕ)
    : Type 0 where
  pub names : Naming
  pub state : State
  pub before : SweepCounts
  pub runs : SweptRuns o entries names state before output
  pub judged : Option ℕ
  pub after : State
  pub last : IsSwept state judged after
  pub counts_are : counts ≡ capped (with_last before judged)

-- the part is a beginning of what these entries give
pub record IsSweptPartOf (o : LabelledStyle) (entries : List LabelledEntry) (part : List ℕ) : Type 0 where
  pub names : Naming
  pub state : State
  pub counts : SweepCounts
  pub output : List ℕ
  pub runs : SweptRuns o entries names state counts output
  pub rest : List ℕ
  pub begins : output ≡ part ++ rest

-- An output of a script with labels over a monitor that sweeps before each of its entries, and what the sweeps came to.
abbrev pub IsSweptOutput : LabelledStyle → (input output : List ℕ) → SweepCounts → Type 0
IsSweptOutput o input output counts =
    (n : ℕ) × (unended : Option LabelledText) × (entries : List LabelledEntry)
    × SpellsLabelledEntries o.labels (lines input) n unended entries
    × AreAllSwept o (all_entries unended entries) counts output

-- the part is a beginning of what some first lines of the script give, or of what all of it gives
pub record IsSweptPart (o : LabelledStyle) (input part : List ℕ) : Type 0 where
  pub first : List (List ℕ)
  pub later : List (List ℕ)
  pub is : lines input ≡ first ++ later
  pub number : ℕ
  pub unended : Option LabelledText
  pub entries : List LabelledEntry
  pub spells : SpellsLabelledEntries o.labels first number unended entries
  pub taken : List LabelledEntry
  pub these : (taken ≡ entries) ⊎ ((later ≡ []) × (taken ≡ all_entries unended entries))
  pub part_is : IsSweptPartOf o taken part
