-- The progress of a run that writes lines: what its functions promise one another (this project's own). Only contracts
-- of private functions cite this file.
use Rattle.std.specs.Prelude.{◌≡◌, ◌⊎◌, ℕ, false, List, [], ◌∷◌, ◌++◌, Option, None, IfSome}
use Rattle.std.specs.List.{AllByRecursion}
use Rattle.std.specs.Io.KnownBytes.{Appends}
use Rattle.scrib_core.specs.declared.step.Step.TheVariants.{Note, Close}
use Rattle.scrib_core.specs.declared.step.Step.TheVariants as step
use Rattle.scrib_script_reader.specs.declared.line.Line.TheVariants as line
use Rattle.scrib_script_reader.specs.declared.item.Item.{Item}
use Rattle.scrib_script_reader.specs.declared.item.Item.TheVariants as item
use Rattle.scrib_script_reader.specs.declared.entry.Entry.{Entry}
use Rattle.scrib_script_reader.specs.declared.limits.Limits.{Limits}
use Rattle.scrib_script_reader.specs.Scripts.{lines}
use Rattle.scrib_script_reader.specs.Entries.{SpellsEntries}
use Rattle.scrib_script_reader.specs.Limits.{IsWithinLimits}
use Rattle.scrib_script_reader.specs.Positions.{HasRead}
use Rattle.scrib_hold_stage.specs.declared.noted.Noted.{Noted}
use Rattle.scrib_hold_stage.specs.declared.stage.Counts.{Counts}
use Rattle.scrib_hold_stage.specs.Entries as stage
use Rattle.scrib_hold_stage.specs.Entries.{note, Opens, Passes}
use Rattle.scrib_hold_stage.specs.PendingClosings.{IsMade, IsNotReady, closings_in}
use Rattle.scrib_hold_stage.specs.Stages as stages
use Rattle.scrib_hold.specs.HeldScripts.{Asked, Pending, event_in, opens_conversation, passing, ends_inside}
use Rattle.scrib_hold.specs.NumberedItems.{Numbered, items_in}
use Rattle.scrib_hold.specs.LetOutSoFar.{LetsOutSoFar, closing_items}
use Rattle.scrib_hold_lines.specs.declared.staging.Passing.{Passing}
use Rattle.scrib_hold_lines.specs.declared.staging.Passing.TheVariants as passed
use Rattle.scrib_hold_lines.specs.declared.staging.Staged.{Staged}
use Rattle.scrib_hold_lines.specs.declared.staging.Staged.TheVariants as kind
use Rattle.scrib_hold_lines.specs.declared.held_lines.HeldLines.{HeldLines}
use Rattle.scrib_hold_lines.specs.declared.line_run.LineRun.{LineRun}
use Rattle.scrib_hold_lines.specs.HeldLines.{IsHeldScriptOf, IsBeginningOfScript, IsHeldScript, IsHeldScriptPart}
use Rattle.scrib_hold_lines.specs.Lines.{WritesItems, WritesItemsPart, IsLineOf, IsPutText, IsTail, put_line, GivesLine, AddsBytes}
use Rattle.scrib_hold_lines.specs.Placement.{IsReaderPlaced}

-- what passes at once for the entry: nothing, its line, or a module text
abbrev pub IsPassing : Entry → Passing → Type 0
IsPassing e passed.Nothing = passing e ≡ []
IsPassing e passed.Line = (text : List ℕ) → GivesLine text e → WritesItems text (passing e)
IsPassing e (passed.Put f put) =
    (passing e ≡ item.Step f (step.Put put) ∷ []) × ((text : List ℕ) → GivesLine text e → IsPutText put)

-- what the stage does with the entry, and what passes at once
abbrev pub IsStagedAs : Entry → Staged → Type 0
IsStagedAs e (kind.Event id event f) =
    (passing e ≡ []) × ((text : List ℕ) → GivesLine text e → IsLineOf text (line.Step f (Note id event)))
IsStagedAs e (kind.Opening id) = IsPassing e passed.Line
IsStagedAs e (kind.Closing id f) =
    (passing e ≡ []) × ((text : List ℕ) → GivesLine text e → IsLineOf text (line.Step f (Close id)))
IsStagedAs e (kind.Other found) = IsPassing e found

-- as entry n of a stage
abbrev pub as_line_entry : ℕ → Staged → stage.Entry Asked
as_line_entry n (kind.Event id e f) = note id n (e, f)
as_line_entry n (kind.Opening id) = Opens id
as_line_entry n (kind.Closing id f) = Passes
as_line_entry n (kind.Other found) = Passes

-- the closing of entry n, if there is one
abbrev pub closing_of : ℕ → Staged → List Pending
closing_of n (kind.Closing id f) = record { conversation = id; time = n; line = f } ∷ []
closing_of n _ = []

-- the text that is written for what passes at once, where this is the line of its entry
abbrev pub IsTextOfEvent : Passing → (line text : List ℕ) → Type 0
IsTextOfEvent passed.Nothing line text = text ≡ []
IsTextOfEvent passed.Line line text = text ≡ line
IsTextOfEvent (passed.Put f put) line text = (tail : List ℕ) × IsTail put tail × (text ≡ put_line f ++ (put ++ tail))

-- the text is a beginning of that
abbrev pub IsPartOf : Passing → (line part : List ℕ) → Type 0
IsPartOf found line part = (rest : List ℕ) × IsTextOfEvent found line (part ++ rest)

-- texts of these items were added
abbrev pub AreWritten : List Item → (was now : List ℕ) → Type 0
AreWritten items was now = AddsBytes (λ out. WritesItems out items) was now

-- a beginning of such texts was added
abbrev pub AreWrittenInPart : List Item → (was now : List ℕ) → Type 0
AreWrittenInPart items was now = AddsBytes (λ out. WritesItemsPart out items) was now

-- A stage with this bound took these entries, and gave this output. These follow next, if they are known.
pub record AreLinesAt (bound : ℕ) (m : HeldLines) (entries next : List Entry) (out : List ℕ) : Type 0 where
  pub numbered : List Numbered
  pub so_far : LetsOutSoFar bound (stages.stage_state m.stage) (closings_in m.pending) entries next numbered
  pub inside : m.ended_inside ≡ ends_inside entries
  pub written : WritesItems out (items_in numbered)

-- the same, where each closing waits further
pub record HasTakenLines (bound : ℕ) (m : HeldLines) (entries : List Entry) (out : List ℕ) : Type 0 where
  pub at : AreLinesAt bound m entries [] out
  pub wait : AllByRecursion (λ c. IsNotReady c (stages.stage_state m.stage)) (closings_in m.pending)

-- the same, where this entry follows next, and no closing is of a conversation that it opens
pub record AreLinesBefore (bound : ℕ) (m : HeldLines) (entries : List Entry) (e : Entry) (out : List ℕ) : Type 0 where
  pub at : AreLinesAt bound m entries (e ∷ []) out
  pub wait : AllByRecursion (λ c. IsNotReady c (stages.stage_state m.stage)) (closings_in m.pending)
  pub apart : AllByRecursion (λ c. opens_conversation c.conversation e ≡ false) (closings_in m.pending)

-- the closings of the conversation that the entry opens were gathered
pub record LinesCloseBefore (old new : HeldLines) (e : Entry) : Type 0 where
  pub out : List ℕ
  pub grows : new.output.items ≡ old.output.items ++ out
  pub after : (bound : ℕ) (entries : List Entry) (before : List ℕ) → HasTakenLines bound old entries before
      → AreLinesBefore bound new entries e (before ++ out)

-- the entry was read, and what this lets out was gathered
pub record ReadsLineEntry (old new : HeldLines) (e : Entry) : Type 0 where
  pub out : List ℕ
  pub grows : new.output.items ≡ old.output.items ++ out
  pub after : (bound : ℕ) (entries : List Entry) (before : List ℕ) → AreLinesBefore bound old entries e before
      → AreLinesAt bound new (entries ++ e ∷ []) [] (before ++ out)

-- the entry failed, and a beginning was gathered
pub record LineReadFails (old new : HeldLines) (e : Entry) : Type 0 where
  pub out : List ℕ
  pub grows : new.output.items ≡ old.output.items ++ out
  pub after : (bound : ℕ) (entries : List Entry) (before : List ℕ) → AreLinesBefore bound old entries e before
      → IsBeginningOfScript bound (entries ++ e ∷ []) (before ++ out)

-- the closings that wait no further were gathered
pub record LinesCloseReady (old new : HeldLines) : Type 0 where
  pub out : List ℕ
  pub grows : new.output.items ≡ old.output.items ++ out
  pub after : (bound : ℕ) (entries : List Entry) (before : List ℕ) → AreLinesAt bound old entries [] before
      → HasTakenLines bound new entries (before ++ out)

-- one of them failed, and a beginning was gathered
pub record LinesReadyFail (old new : HeldLines) : Type 0 where
  pub out : List ℕ
  pub grows : new.output.items ≡ old.output.items ++ out
  pub after : (bound : ℕ) (entries : List Entry) (before : List ℕ) → AreLinesAt bound old entries [] before
      → IsBeginningOfScript bound entries (before ++ out)

-- the first closing that has the one property was made, and was gathered behind what was released then
pub record LinesCloseOne (Is IsNot : Pending → Type 0) (old new : HeldLines) : Type 0 where
  pub c : Pending
  pub released : List (Noted Asked)
  pub made : IsMade event_in Is IsNot c (closings_in old.pending) (closings_in new.pending)
      (stages.stage_state old.stage) (stages.stage_state new.stage) [] released
  pub inside : new.ended_inside ≡ old.ended_inside
  pub written : AreWritten (closing_items c released) old.output.items new.output.items

-- it was made, but gathered in part
pub record LinesCloseInPart (Is IsNot : Pending → Type 0) (old new : HeldLines) : Type 0 where
  pub c : Pending
  pub left : List Pending
  pub after : stages.StageState Asked
  pub released : List (Noted Asked)
  pub made : IsMade event_in Is IsNot c (closings_in old.pending) left (stages.stage_state old.stage) after [] released
  pub written : AreWrittenInPart (closing_items c released) old.output.items new.output.items

-- it was made in part, and nothing was gathered, or it was gathered in part
abbrev pub LinesCloseFails : (Is IsNot : Pending → Type 0) → (old new : HeldLines) → Type 0
LinesCloseFails Is IsNot old new = (new.output.items ≡ old.output.items) ⊎ LinesCloseInPart Is IsNot old new

-- the lines are as they were, but for what the stage released last
pub record AreSameLines (old new : HeldLines) : Type 0 where
  pub stage : stages.stage_state new.stage ≡ stages.stage_state old.stage
  pub pending : closings_in new.pending ≡ closings_in old.pending
  pub inside : new.ended_inside ≡ old.ended_inside
  pub output : new.output ≡ old.output

-- the entry was taken, and what it lets out was gathered
pub record TakesLineEntry (old new : HeldLines) (e : Entry) : Type 0 where
  pub out : List ℕ
  pub grows : new.output.items ≡ old.output.items ++ out
  pub after : (bound : ℕ) (entries : List Entry) (before : List ℕ) → HasTakenLines bound old entries before
      → HasTakenLines bound new (entries ++ e ∷ []) (before ++ out)

-- the entry failed, and a beginning was gathered
pub record LinesFailAt (old new : HeldLines) (e : Entry) : Type 0 where
  pub out : List ℕ
  pub grows : new.output.items ≡ old.output.items ++ out
  pub after : (bound : ℕ) (entries : List Entry) (before : List ℕ) → HasTakenLines bound old entries before
      → IsBeginningOfScript bound (entries ++ e ∷ []) (before ++ out)

-- what waited at the end of the script was gathered, and these events were counted
pub record LinesEnd (old new : HeldLines) (counts : Counts) : Type 0 where
  pub out : List ℕ
  pub grows : new.output.items ≡ old.output.items ++ out
  pub after : (bound : ℕ) (entries : List Entry) (before : List ℕ) → HasTakenLines bound old entries before
      → IsHeldScriptOf bound entries counts (before ++ out)

-- the end of the script failed, and a beginning was gathered
pub record LinesEndFails (old new : HeldLines) : Type 0 where
  pub out : List ℕ
  pub grows : new.output.items ≡ old.output.items ++ out
  pub after : (bound : ℕ) (entries : List Entry) (before : List ℕ) → HasTakenLines bound old entries before
      → IsBeginningOfScript bound entries (before ++ out)

-- a run with these limits and this bound consumed these bytes of its script, and gave this output
pub record HasLinesProgressed (m : Limits) (bound : ℕ) (run : LineRun) (seen out : List ℕ) : Type 0 where
  pub entries : List Entry
  pub read : HasRead m run.reader.script seen entries
  pub taken : HasTakenLines bound run.lines entries out

-- the run consumed the bytes, and gave this output
pub record LinesAdvance (old new : LineRun) (bytes out : List ℕ) : Type 0 where
  pub goes : (m : Limits) (bound : ℕ) (seen before : List ℕ) → HasLinesProgressed m bound old seen before
      → HasLinesProgressed m bound new (seen ++ bytes) (before ++ out)

-- the run failed within these bytes, and gave this output
pub record LinesPieceFails (old : LineRun) (bytes out : List ℕ) : Type 0 where
  pub so : (m : Limits) (bound : ℕ) (seen before : List ℕ) → HasLinesProgressed m bound old seen before
      → (more : List ℕ) → IsHeldScriptPart bound (seen ++ (bytes ++ more)) (before ++ out)

-- the bytes were consumed, and their output was gathered
pub record GathersBytes (old new : LineRun) (bytes : List ℕ) : Type 0 where
  pub out : List ℕ
  pub grows : new.lines.output.items ≡ old.lines.output.items ++ out
  pub went : LinesAdvance old new bytes out

-- a front of the bytes was
abbrev pub GathersLinesFront : (old new : LineRun) (bytes rest : List ℕ) → Type 0
GathersLinesFront old new bytes rest = (front : List ℕ) × (bytes ≡ front ++ rest) × GathersBytes old new front

-- the run failed within these bytes, and gathered a beginning
pub record LinesGatherFails (old new : LineRun) (bytes : List ℕ) : Type 0 where
  pub out : List ℕ
  pub grows : new.lines.output.items ≡ old.lines.output.items ++ out
  pub fails : LinesPieceFails old bytes out

-- the entry of the script's last line was taken, if there is one, and what it lets out was gathered
pub record TakesLastLine (old : LineRun) (lines_then : HeldLines) : Type 0 where
  pub out : List ℕ
  pub grows : lines_then.output.items ≡ out
  pub so : (m : Limits) (bound : ℕ) (seen before : List ℕ) → HasLinesProgressed m bound old seen before
      → (entries : List Entry) × SpellsEntries 1 None (lines seen) entries
      × HasTakenLines bound lines_then entries (before ++ out) × IsWithinLimits m seen

-- the run gave this output at the end of its script, which is within the limits
pub record LinesEndSucceeds (old : LineRun) (counts : Counts) (out : List ℕ) : Type 0 where
  pub so : (m : Limits) (bound : ℕ) (seen before : List ℕ) → HasLinesProgressed m bound old seen before
      → IsHeldScript bound seen counts (before ++ out) × IsWithinLimits m seen

-- the run failed at the end of its script, and gave this output
pub record LinesEndIsCut (old : LineRun) (out : List ℕ) : Type 0 where
  pub so : (m : Limits) (bound : ℕ) (seen before : List ℕ) → HasLinesProgressed m bound old seen before
      → IsHeldScriptPart bound seen (before ++ out)

-- these bytes were written
abbrev pub WritesOut : (List ℕ → Type 0) → Option (List ℕ) → Option (List ℕ) → Type 0
WritesOut P was now = (out : List ℕ) × P out × Appends was now out

-- a run before its first byte
pub record IsNewLineRun (m : Limits) (bound : ℕ) (run : LineRun) : Type 0 where
  pub progress : HasLinesProgressed m bound run [] []
  pub placed : IsReaderPlaced run.reader

-- a whole script, which is within the limits, was run, and these are the counts of its events
abbrev pub LinesRunSucceeds : Limits → ℕ → Option (List ℕ) → Counts → (was now : Option (List ℕ)) → Type 0
LinesRunSucceeds m bound r counts was now =
    IfSome r (λ input. WritesOut (λ out. IsHeldScript bound input counts out) was now × IsWithinLimits m input)

-- a run of the script, where it is known, failed
abbrev pub LinesRunFails : ℕ → Option (List ℕ) → (was now : Option (List ℕ)) → Type 0
LinesRunFails bound r was now = IfSome r (λ input. WritesOut (λ out. IsHeldScriptPart bound input out) was now)
