-- Scripts with labels over a monitor that sweeps before each of their entries (this project's own).
use Rattle.std.specs.Prelude.{◌≡◌, ◌⊎◌, ◌≤◌, ℕ, ◌+◌, Bool, true, if◌then◌else◌, List, [], ◌∷◌, ◌++◌, None}
use Rattle.scrib_core.specs.declared.reply.Reply.{Reply}
use Rattle.scrib_core.specs.Answers.{State, initial}
use Rattle.scrib_script_reader.specs.declared.entry.Entry.TheVariants as entry
use Rattle.scrib_script_reader.specs.declared.item.Item.{Item}
use Rattle.scrib_sweep.specs.Sweeps.{IsAllFresh, IsRenewedCount, IsSweep}
use Rattle.scrib_labelled.specs.declared.label_options.LabelledStyle.{LabelledStyle}
use Rattle.scrib_labelled.specs.LabelledEntries.{LabelledEntry}
use Rattle.scrib_labelled.specs.LabelledLines.{LineLabel}
use Rattle.scrib_labelled.specs.LabelledRuns.{IsNumberIn, Naming, Takes, after_replies, put_back}
use Rattle.scrib_sweeping.specs.declared.sweep_counts.SweepCounts.{SweepCounts}

-- the counts of no sweep
abbrev pub no_sweeps : SweepCounts
no_sweeps = record { judged = 0; refused = 0 }

-- the counts with a sweep that judged this many conversations, and was refused memory or not
abbrev pub with_sweep : SweepCounts → (judged : ℕ) → (refused : Bool) → SweepCounts
with_sweep c judged refused =
    record { judged = c.judged + judged; refused = c.refused + (if refused then 1 else 0) }

-- A sweep before an entry: at most 64 turns of the stale conversations, by rising ids. There are fewer only where
-- nothing is stale behind it, or where memory was refused. So many conversations are not stale any more.
pub record IsSweptBefore (w : State) (judged : ℕ) (refused : Bool) (u : State) : Type 0 where
  pub turns : ℕ
  pub sweep : IsSweep w turns u
  pub few : turns ≤ 64
  pub enough : (turns ≡ 64) ⊎ (IsAllFresh u ⊎ (refused ≡ true))
  pub renewed : IsRenewedCount w u judged

-- The entries with these labels are taken one after another over a new monitor, with a sweep before each: the numbers
-- of names then, the state, the counts of the sweeps, and the output. Nothing is written for a sweep or for a skipped
-- line. A name has a number from the reply that opens its conversation to the one that closes it.
pub data SweptRuns (o : LabelledStyle) : List LabelledEntry → Naming → State → SweepCounts → List ℕ → Type 0 where
  nothing : (names : Naming) → ((name : List ℕ) → names name ≡ None) → SweptRuns o [] names initial no_sweeps []
  skips : (entries : List LabelledEntry) (names : Naming) (w u : State) (counts : SweepCounts) (out : List ℕ)
      (label : LineLabel) (judged : ℕ) (refused : Bool) → SweptRuns o entries names w counts out
      → IsSweptBefore w judged refused u
      → SweptRuns o (entries ++ (label, entry.Skipped) ∷ []) names u (with_sweep counts judged refused) out
  takes : (entries : List LabelledEntry) (names after : Naming) (w u v : State) (counts : SweepCounts)
      (out more : List ℕ) (label : LineLabel) (i : Item) (replies : List Reply) (judged : ℕ) (refused : Bool)
      → SweptRuns o entries names w counts out → IsSweptBefore w judged refused u → IsNumberIn names label.session
      → Takes o (put_back o label) u i v replies more
      → ((name : List ℕ) → after name ≡ after_replies names label.session replies name)
      → SweptRuns o (entries ++ (label, entry.Item i) ∷ []) after v (with_sweep counts judged refused) (out ++ more)
