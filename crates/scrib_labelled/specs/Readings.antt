-- How far a script with labels is read into a stage, and what was written for it (this project's own).
use Rattle.std.specs.Prelude.{◌≡◌, ◌⊎◌, ℕ, ◌+◌, List, ◌++◌, length, take, Option, Some, None, IfSome}
use Rattle.std.specs.Io.KnownBytes.{Appends}
use Rattle.scrib_script_reader.specs.declared.limits.Limits.{Limits}
use Rattle.scrib_script_reader.specs.Limits.{IsWithinLimits}
use Rattle.scrib_script_reader.specs.Scripts.{lines}
use Rattle.scrib_labelled.specs.declared.label_options.LabelOptions.{LabelOptions}
use Rattle.scrib_labelled.specs.declared.labelled_run.LabelledRun.{LabelledRun}
use Rattle.scrib_labelled.specs.declared.put_text.PutText.{PutText}
use Rattle.scrib_labelled.specs.LabelledEntries.{LabelledEntry, SpellsLabelledEntries, all_entries}
use Rattle.scrib_labelled.specs.LabelledLines.{line_limit}
use Rattle.scrib_labelled.specs.LabelledScripts.{LabelledText}
use Rattle.scrib_labelled.specs.Splits.{IsSplit}
use Rattle.scrib_labelled.specs.Stages.{OutputRelation, StageRelation}
use Rattle.scrib_labelled.specs.TextProgress.{HoldsText}

-- what a run began with: its stage, and the labels and the limits of its script
pub record Beginning (S : Type 0) : Type 0 where
  pub stage : S
  pub labels : LabelOptions
  pub limits : Limits

-- the stage of this run, and the labels and the limits of its script
abbrev pub beginning : {S : Type 0} → LabelledRun S → Beginning S
beginning run = record { stage = run.stage; labels = run.options; limits = run.count.limits }

-- the bytes that are kept of a line
abbrev pub kept_len : LabelOptions → Option LabelledText → ℕ
kept_len o None = line_limit o + 2
kept_len o (Some t) = 1048577

-- what is kept of the module text that is read, if one is
abbrev pub HoldsUnended : Option PutText → Option LabelledText → Type 0
HoldsUnended None None = Unit {0}
HoldsUnended (Some kept) (Some t) = HoldsText kept t
HoldsUnended _ _ = ⊥

-- A run that began so consumed these bytes of its script, and gave this output: the stage took the entries of the lines
-- that have ended.
pub record IsAt {S : Type 0} (Took : StageRelation S) (b : Beginning S) (run : LabelledRun S) (seen out : List ℕ)
    : Type 0 where
  pub options : run.options ≡ b.labels
  pub limits : run.count.limits ≡ b.limits
  pub whole : List (List ℕ)
  pub part : List ℕ
  pub split : IsSplit seen whole part
  pub unended : Option LabelledText
  pub entries : List LabelledEntry
  pub spells : SpellsLabelledEntries b.labels whole (run.count.lines + 1) unended entries
  pub text : HoldsUnended run.text unended
  pub kept : run.line.items ≡ take (kept_len run.options unended) part
  pub took : Took b.stage run.stage entries out
  pub bytes : run.count.bytes ≡ length seen
  pub lines : run.count.lines ≡ length whole
  pub within : IsWithinLimits b.limits seen

-- the output is a part of what the stage gives for the entries of some first ones of these lines
pub record IsPartOfLines {S : Type 0} (Part : OutputRelation S) (o : LabelOptions) (first : S) (ls : List (List ℕ))
    (out : List ℕ) : Type 0 where
  pub read : List (List ℕ)
  pub later : List (List ℕ)
  pub is : ls ≡ read ++ later
  pub number : ℕ
  pub unended : Option LabelledText
  pub entries : List LabelledEntry
  pub spells : SpellsLabelledEntries o read number unended entries
  pub part : Part first entries out

-- the output is a part of what the stage gives for all entries of these lines, which are a whole script
abbrev pub IsPartOfAll : {S : Type 0} → OutputRelation S → LabelOptions → (first : S) → (ls : List (List ℕ))
    → (out : List ℕ) → Type 0
IsPartOfAll Part o first ls out =
    (n : ℕ) × (unended : Option LabelledText) × (entries : List LabelledEntry)
    × SpellsLabelledEntries o ls n unended entries × Part first (all_entries unended entries) out

-- the output is all that the stage gives for the entries of a script, and the stage is this one behind it
abbrev pub IsWholeOf : {S : Type 0} → StageRelation S → Beginning S → (after : S) → (input out : List ℕ) → Type 0
IsWholeOf TookAll b after input out =
    (n : ℕ) × (unended : Option LabelledText) × (entries : List LabelledEntry)
    × SpellsLabelledEntries b.labels (lines input) n unended entries
    × TookAll b.stage after (all_entries unended entries) out

-- the output is a part of what the stage gives for a script, or for some first lines of it
abbrev pub IsPartOf : {S : Type 0} → OutputRelation S → Beginning S → (input out : List ℕ) → Type 0
IsPartOf Part b input out =
    IsPartOfLines Part b.labels b.stage (lines input) out ⊎ IsPartOfAll Part b.labels b.stage (lines input) out

-- the run consumed the bytes, and gave this output
pub record RunAdvances {S : Type 0} (Took : StageRelation S) (old new : LabelledRun S) (bytes out : List ℕ)
    : Type 0 where
  pub goes : (b : Beginning S) (seen before : List ℕ) → IsAt Took b old seen before
      → IsAt Took b new (seen ++ bytes) (before ++ out)

-- the run failed within these bytes, and gave this output
pub record PieceFails {S : Type 0} (Took : StageRelation S) (Part : OutputRelation S) (old : LabelledRun S)
    (bytes out : List ℕ) : Type 0 where
  pub so : (b : Beginning S) (seen before : List ℕ) → IsAt Took b old seen before
      → (more : List ℕ) → IsPartOf Part b (seen ++ (bytes ++ more)) (before ++ out)

-- the run gave this output at the end of its script, which is within the limits, and the stage is this one behind it
pub record EndSucceeds {S : Type 0} (Took TookAll : StageRelation S) (old : LabelledRun S) (after : S) (out : List ℕ)
    : Type 0 where
  pub so : (b : Beginning S) (seen before : List ℕ) → IsAt Took b old seen before
      → IsWholeOf TookAll b after seen (before ++ out) × IsWithinLimits b.limits seen

-- the run failed at the end of its script, and gave this output
pub record EndIsCut {S : Type 0} (Took : StageRelation S) (Part : OutputRelation S) (old : LabelledRun S)
    (out : List ℕ) : Type 0 where
  pub so : (b : Beginning S) (seen before : List ℕ) → IsAt Took b old seen before → IsPartOf Part b seen (before ++ out)

-- these bytes were written
abbrev pub Writes : (List ℕ → Type 0) → Option (List ℕ) → Option (List ℕ) → Type 0
Writes P was now = (out : List ℕ) × P out × Appends was now out

-- a whole script, which is within the limits, was read, all of its output was written, and the stage is this one
abbrev pub ReadingSucceeds : {S : Type 0} → StageRelation S → Beginning S → (after : S) → Option (List ℕ)
    → (was now : Option (List ℕ)) → Type 0
ReadingSucceeds TookAll b after r was now =
    IfSome r (λ input. Writes (λ out. IsWholeOf TookAll b after input out) was now × IsWithinLimits b.limits input)

-- a reading of the script, where it is known, failed, and a part of its output was written
abbrev pub ReadingFails : {S : Type 0} → OutputRelation S → Beginning S → Option (List ℕ)
    → (was now : Option (List ℕ)) → Type 0
ReadingFails Part b r was now = IfSome r (λ input. Writes (λ out. IsPartOf Part b input out) was now)
