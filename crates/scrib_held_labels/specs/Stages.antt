-- What a stage that holds the events of a script with labels back has taken (this project's own). Only contracts of
-- private functions cite this file.
use Rattle.std.specs.Prelude.{◌≡◌, ℕ, ◌+◌, List, [], ◌∷◌, ◌++◌, length, Some, None}
use Rattle.scrib_core.specs.World.{conversation}
use Rattle.scrib_core.specs.Answers.{State}
use Rattle.scrib_script_reader.specs.declared.entry.Entry.{Entry}
use Rattle.scrib_hold_stage.specs.declared.stage.Counts.{Counts}
use Rattle.scrib_hold.specs.HeldMonitors.{HasNoneLeft, HasTaken}
use Rattle.scrib_hold.specs.NumberedItems.{Numbered}
use Rattle.scrib_labels.specs.Naming.{number_of}
use Rattle.scrib_labelled.specs.declared.label_options.LabelledStyle.{LabelledStyle}
use Rattle.scrib_labelled.specs.LabelledEntries.{LabelledEntry}
use Rattle.scrib_labelled.specs.LabelledLines.{LineLabel}
use Rattle.scrib_labelled.specs.LabelledRuns.{Naming}
use Rattle.scrib_held_labels.specs.declared.held_stage.HeldStage.{HeldStage}
use Rattle.scrib_held_labels.specs.HeldLabels.{AreAllHeld, IsHeldPartOf}
use Rattle.scrib_held_labels.specs.HeldRuns.{HeldRuns, label_at, plain}
use Rattle.scrib_held_labels.specs.Sinks as sinks
use Rattle.scrib_held_labels.specs.WaitingLabels.{AreWithin, AreOf}

-- the style of a stage
abbrev pub style_of : HeldStage → LabelledStyle
style_of s = sinks.style_of s.held.sink

-- its bound
abbrev pub bound_of : HeldStage → ℕ
bound_of s = s.held.stage.bound

-- the state of its monitor
abbrev pub state_of : HeldStage → State
state_of s = sinks.state_of s.held.sink

-- the numbers of names
abbrev pub naming_of : HeldStage → Naming
naming_of s = number_of s.names

-- the replies that are not written yet
abbrev pub gathered_in : HeldStage → List ℕ
gathered_in s = sinks.gathered_in s.held.sink

-- since it was new the stage took these entries, and let these items out, which were carried out with this output
pub record HasHeld (first now : HeldStage) (entries : List LabelledEntry) (numbered : List Numbered) (out : List ℕ)
    : Type 0 where
  pub style : style_of now ≡ style_of first
  pub taken : HasTaken (bound_of first) now.held (plain entries) numbered
  pub within : AreWithin now.held.sink.waiting (length entries)
  pub labels : AreOf now.held.sink.waiting (label_at entries)
  pub runs : HeldRuns (style_of first) (bound_of first) entries numbered (naming_of now) (state_of now) out

-- the same, whichever items
abbrev pub HeldEntries : (first now : HeldStage) → List LabelledEntry → (out : List ℕ) → Type 0
HeldEntries first now entries out = (numbered : List Numbered) × HasHeld first now entries numbered out

-- it took all entries of a script, and gave this output
abbrev pub HeldAll : (first now : HeldStage) → List LabelledEntry → (out : List ℕ) → Type 0
HeldAll first now entries out =
    (counts : Counts) × (now.counts ≡ Some counts) × AreAllHeld (style_of first) (bound_of first) entries counts out

-- the output is a beginning of what these entries give
abbrev pub HeldPart : (first : HeldStage) → List LabelledEntry → (part : List ℕ) → Type 0
HeldPart first entries part = IsHeldPartOf (style_of first) (bound_of first) entries part

-- nothing is left of the conversation: it is not open, and nothing of it waits
abbrev pub HasGone : HeldStage → ℕ → Type 0
HasGone s id = (conversation (state_of s).world id ≡ None) × HasNoneLeft id s.held

-- the label of the next entry is kept where it is wanted, and the labels of other entries are as they were
abbrev pub LabelsEntry : (old new : HeldStage) → LineLabel → Entry → Type 0
LabelsEntry old new label e =
    (bound : ℕ) (entries : List LabelledEntry) (numbered : List Numbered)
    → HasTaken bound old.held (plain entries) numbered
    → AreWithin old.held.sink.waiting (length entries) → AreOf old.held.sink.waiting (label_at entries)
    → AreWithin new.held.sink.waiting (length entries + 1)
    × AreOf new.held.sink.waiting (label_at (entries ++ (label, e) ∷ []))
