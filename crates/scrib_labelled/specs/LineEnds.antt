-- What lines of a script with labels change in a run (this project's own). Only contracts of private functions cite
-- this file.
use Rattle.std.specs.Prelude.{◌≡◌, ◌⊎◌, ◌<◌, ℕ, ◌+◌, List, [], ◌∷◌, ◌++◌, length, take, Option, Some, None}
use Rattle.scrib_core.specs.declared.step.Step.TheVariants.{Put}
use Rattle.scrib_script_reader.specs.declared.entry.Entry.TheVariants as entry
use Rattle.scrib_script_reader.specs.declared.item.Item.TheVariants as item
use Rattle.scrib_script_reader.specs.declared.line.Line.{Line}
use Rattle.scrib_script_reader.specs.Says.{Says}
use Rattle.scrib_script_reader.specs.Scripts.{NoLf, bare, lines}
use Rattle.scrib_labelled.specs.declared.label_options.LabelOptions.{LabelOptions}
use Rattle.scrib_labelled.specs.declared.labelled_run.LabelledRun.{LabelledRun}
use Rattle.scrib_labelled.specs.declared.put_text.PutText.{PutText}
use Rattle.scrib_labelled.specs.LabelledEntries.{LabelledEntry, SpellsLabelledEntries, all_entries}
use Rattle.scrib_labelled.specs.LabelledLines.{IsCutOf, IsNumbered, LineLabel}
use Rattle.scrib_labelled.specs.LabelledScripts.{LabelledText, SaysAs}
use Rattle.scrib_labelled.specs.Readings.{HoldsUnended, IsPartOfLines, kept_len}
use Rattle.scrib_labelled.specs.Stages.{FailsEntry, OutputRelation, StageRelation, TakesEntry}
use Rattle.scrib_labelled.specs.TextProgress.{HoldsText, tag_in}

-- ---- which lines are meant: a choice says of a property of lines that it holds of all of them

-- the property of a line, and of the module text that is read before it
abbrev pub OfLines : Type 1
OfLines = Option LabelledText → List ℕ → Type 0

-- the lines that have ended, of which this much is kept
abbrev pub of_kept : LabelOptions → Option PutText → (kept : List ℕ) → OfLines → Type 0
of_kept o text kept P =
    (before : Option LabelledText) (full : List ℕ) → HoldsUnended text before
    → kept ≡ take (kept_len o before) full → P before (full ++ 10 ∷ [])

-- the lines of which this much is kept, and that end with these bytes
abbrev pub of_body : LabelOptions → Option PutText → (kept body : List ℕ) → OfLines → Type 0
of_body o text kept body P =
    (before : Option LabelledText) (part : List ℕ) → HoldsUnended text before
    → kept ≡ take (kept_len o before) part → P before ((part ++ body) ++ 10 ∷ [])

-- the lines outside module texts of which this is read
abbrev pub of_cut : LabelOptions → (cut : List ℕ) → OfLines → Type 0
of_cut o cut P = (l : List ℕ) → IsCutOf o cut l → P None l

-- the label of the line of this number, of which this is read, which has this tag and names no conversation
abbrev pub nameless : (n : ℕ) → (text : List ℕ) → (tag : Option (List ℕ)) → LineLabel
nameless n text tag = record { line = n; text = text; tag = tag; session = None }

-- the lines outside module texts with this label and this meaning, of which the label has what is read
abbrev pub of_meaning : LabelOptions → LineLabel → Line → OfLines → Type 0
of_meaning o label meaning P = (l : List ℕ) → SaysAs o (bare l) label meaning → IsCutOf o label.text l → P None l

-- the line has the meaning of an object with this tag that is spelled as this line
abbrev pub SaysObject : LabelOptions → (tag : Option (List ℕ)) → (spelled l : List ℕ) → Type 0
SaysObject o tag spelled l =
    (label : LineLabel) (plain : List ℕ) (meaning : Line) → label.tag ≡ tag
    → IsNumbered o.names spelled label.session plain → Says plain meaning → SaysAs o (bare l) label meaning

-- the lines that are objects with this tag, and are spelled as this line, of which this is read
abbrev pub of_object : LabelOptions → (text : List ℕ) → (tag : Option (List ℕ)) → (spelled : List ℕ) → OfLines → Type 0
of_object o text tag spelled P = (l : List ℕ) → SaysObject o tag spelled l → IsCutOf o text l → P None l

-- the lines of this module text that have ended, of which this much is kept
abbrev pub of_text_line : PutText → (kept : List ℕ) → OfLines → Type 0
of_text_line text kept P =
    (t : LabelledText) (full : List ℕ) → HoldsText text t → kept ≡ take 1048577 full → P (Some t) (full ++ 10 ∷ [])

-- the last bytes of a script, which no LF ended, of which this much is kept: there may be none
abbrev pub of_last : LabelOptions → Option PutText → (kept : List ℕ) → OfLines → Type 0
of_last o text kept P =
    (before : Option LabelledText) (part : List ℕ) → HoldsUnended text before → NoLf part
    → kept ≡ take (kept_len o before) part → P before part

-- the last bytes of a script in this module text, where there are some
abbrev pub of_last_text_line : PutText → (kept : List ℕ) → OfLines → Type 0
of_last_text_line text kept P =
    (t : LabelledText) (part : List ℕ) → HoldsText text t → NoLf part → 0 < length part
    → kept ≡ take 1048577 part → P (Some t) part

-- ---- what a line changes

-- lines that are read, with this one more: the module text behind it, and the entries that it gives
abbrev pub Gives : LabelOptions → (n : ℕ) → (before : Option LabelledText) → (l : List ℕ)
    → (after : Option LabelledText) → List LabelledEntry → Type 0
Gives o n before l after given =
    (whole : List (List ℕ)) (entries : List LabelledEntry) → SpellsLabelledEntries o whole n before entries
    → SpellsLabelledEntries o (whole ++ l ∷ []) (n + 1) after (entries ++ given)

-- what a line of this number changes, which a run reads with this stage before it: the module text that is kept behind
-- it, the stage, and what the output has more
pub record LineEnds {S : Type 0} (Took : StageRelation S) (o : LabelOptions) (n : ℕ) (old new : S)
    (text : Option PutText) (more : List ℕ) (before : Option LabelledText) (l : List ℕ) : Type 0 where
  pub after : Option LabelledText
  pub given : List LabelledEntry
  pub text_is : HoldsUnended text after
  pub gives : Gives o n before l after given
  pub took : (first : S) (entries : List LabelledEntry) (out : List ℕ) → Took first old entries out
      → Took first new (entries ++ given) (out ++ more)

-- the run failed at a line of this number, and the output has this more
abbrev pub LineFails : {S : Type 0} → StageRelation S → OutputRelation S → LabelOptions → (n : ℕ) → (old : S)
    → (more : List ℕ) → (before : Option LabelledText) → (l : List ℕ) → Type 0
LineFails {S} Took Part o n old more before l =
    (first : S) (whole : List (List ℕ)) (entries : List LabelledEntry) (out : List ℕ)
    → SpellsLabelledEntries o whole n before entries → Took first old entries out
    → IsPartOfLines Part o first (whole ++ l ∷ []) (out ++ more)

-- the run is the same, but for what a line that ended changes
abbrev pub IsSameRun : {S : Type 0} → (old new : LabelledRun S) → Type 0
IsSameRun old new = (new.options ≡ old.options) × (new.line ≡ old.line) × (new.count ≡ old.count)

-- the run took one of these lines, and gathered this more
abbrev pub EndsLine : {S : Type 0} → StageRelation S → (gathered : S → List ℕ) → (old new : LabelledRun S)
    → (OfLines → Type 0) → Type 0
EndsLine Took gathered old new Of =
    (more : List ℕ) × (gathered new.stage ≡ gathered old.stage ++ more) × IsSameRun old new
    × Of (LineEnds Took old.options (old.count.lines + 1) old.stage new.stage new.text more)

-- the run failed at one of these lines, and gathered a part
abbrev pub FailsLine : {S : Type 0} → StageRelation S → OutputRelation S → (gathered : S → List ℕ)
    → (old new : LabelledRun S) → (OfLines → Type 0) → Type 0
FailsLine Took Part gathered old new Of =
    (more : List ℕ) × (gathered new.stage ≡ gathered old.stage ++ more)
    × Of (LineFails Took Part old.options (old.count.lines + 1) old.stage more)

-- the run took a line that ends with these bytes
pub record EndsBody {S : Type 0} (Took : StageRelation S) (gathered : S → List ℕ) (old new : LabelledRun S)
    (body : List ℕ) : Type 0 where
  pub options : new.options ≡ old.options
  pub line : new.line.items ≡ []
  pub count : new.count ≡ old.count
  pub more : List ℕ
  pub grows : gathered new.stage ≡ gathered old.stage ++ more
  pub ends : of_body old.options old.text old.line.items body
      (LineEnds Took old.options (old.count.lines + 1) old.stage new.stage new.text more)

-- the label of the put of this text
pub record IsPutLabel (text : PutText) (label : LineLabel) : Type 0 where
  pub line : label.line ≡ text.line
  pub head : label.text ≡ text.head.items
  pub tag : label.tag ≡ tag_in text
  pub session : label.session ≡ None

-- the stage took the put of this text
pub record PutsText {S : Type 0} (Took : StageRelation S) (gathered : S → List ℕ) (old new : LabelledRun S)
    (text : PutText) : Type 0 where
  pub same : IsSameRun old new
  pub rest : new.text ≡ old.text
  pub label : LineLabel
  pub labelled : IsPutLabel text label
  pub takes : TakesEntry Took gathered old.stage new.stage label
      (entry.Item (item.Step text.format (Put text.bytes.items)))

-- the stage failed at the put of this text
pub record PutFails {S : Type 0} (Took : StageRelation S) (Part : OutputRelation S) (gathered : S → List ℕ)
    (old new : LabelledRun S) (text : PutText) : Type 0 where
  pub label : LineLabel
  pub labelled : IsPutLabel text label
  pub fails : FailsEntry Took Part gathered old.stage new.stage label
      (entry.Item (item.Step text.format (Put text.bytes.items)))

-- ---- the end of a script

-- the label of the module text that is read, if one is
abbrev pub HasLabel : Option PutText → Option LabelledText → Type 0
HasLabel None None = Unit {0}
HasLabel (Some kept) (Some t) =
    (tag_in kept ≡ t.label.tag) × (t.label.session ≡ None) × (kept.line ≡ t.label.line)
    × (kept.head.items ≡ t.label.text)
HasLabel _ _ = ⊥

-- what the last bytes of a script change, which no LF ended: there may be none
pub record LastLineEnds {S : Type 0} (Took : StageRelation S) (o : LabelOptions) (n : ℕ) (old new : S)
    (text : Option PutText) (more : List ℕ) (before : Option LabelledText) (part : List ℕ) : Type 0 where
  pub after : Option LabelledText
  pub given : List LabelledEntry
  pub label : HasLabel text after
  pub gives : (whole : List (List ℕ)) (entries : List LabelledEntry) → SpellsLabelledEntries o whole n before entries
      → (m : ℕ) × SpellsLabelledEntries o (whole ++ lines part) m after (entries ++ given)
  pub took : (first : S) (entries : List LabelledEntry) (out : List ℕ) → Took first old entries out
      → Took first new (entries ++ given) (out ++ more)

-- the run failed at the last bytes, and the output has this more
abbrev pub LastLineFails : {S : Type 0} → StageRelation S → OutputRelation S → LabelOptions → (n : ℕ) → (old : S)
    → (more : List ℕ) → (before : Option LabelledText) → (part : List ℕ) → Type 0
LastLineFails {S} Took Part o n old more before part =
    (first : S) (whole : List (List ℕ)) (entries : List LabelledEntry) (out : List ℕ)
    → SpellsLabelledEntries o whole n before entries → Took first old entries out
    → IsPartOfLines Part o first (whole ++ lines part) (out ++ more)

-- the run took one of these last lines, and gathered this more
abbrev pub EndsLast : {S : Type 0} → StageRelation S → (gathered : S → List ℕ) → (old new : LabelledRun S)
    → (OfLines → Type 0) → Type 0
EndsLast Took gathered old new Of =
    (more : List ℕ) × (gathered new.stage ≡ gathered old.stage ++ more)
    × Of (LastLineEnds Took old.options (old.count.lines + 1) old.stage new.stage new.text more)

-- the run failed at one of these last lines, and gathered a part
abbrev pub FailsLast : {S : Type 0} → StageRelation S → OutputRelation S → (gathered : S → List ℕ)
    → (old new : LabelledRun S) → (OfLines → Type 0) → Type 0
FailsLast Took Part gathered old new Of =
    (more : List ℕ) × (gathered new.stage ≡ gathered old.stage ++ more)
    × Of (LastLineFails Took Part old.options (old.count.lines + 1) old.stage more)

-- the run took the end of its script: the stage took the end of the module text that is read, if one is
pub record EndsText {S : Type 0} (Took : StageRelation S) (gathered : S → List ℕ) (old new : LabelledRun S)
    : Type 0 where
  pub more : List ℕ
  pub grows : gathered new.stage ≡ gathered old.stage ++ more
  pub took : (after : Option LabelledText) (first : S) (entries : List LabelledEntry) (out : List ℕ)
      → HasLabel old.text after → Took first old.stage entries out
      → Took first new.stage (all_entries after entries) (out ++ more)

-- the run failed at the end of its script, and gathered a part
pub record FailsText {S : Type 0} (Took : StageRelation S) (Part : OutputRelation S) (gathered : S → List ℕ)
    (old new : LabelledRun S) : Type 0 where
  pub more : List ℕ
  pub grows : gathered new.stage ≡ gathered old.stage ++ more
  pub part : (after : Option LabelledText) (first : S) (entries : List LabelledEntry) (out : List ℕ)
      → HasLabel old.text after → Took first old.stage entries out
      → Part first entries (out ++ more) ⊎ Part first (all_entries after entries) (out ++ more)
