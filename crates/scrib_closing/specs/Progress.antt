-- The progress of a run that closes complete conversations: what its functions promise one another (this project's own).
-- Only contracts of private functions cite this file.
use Rattle.std.specs.Prelude.{◌≡◌, ℕ, List, [], ◌∷◌, ◌++◌, Option, IfSome}
use Rattle.std.specs.Io.KnownBytes.{Appends}
use Rattle.scrib_core.specs.declared.format.Format.{Format}
use Rattle.scrib_cli.specs.Requests.{RequestReply}
use Rattle.scrib_core.specs.Answers.{State, initial}
use Rattle.scrib_core.specs.Held.{state_of}
use Rattle.scrib_script_reader.specs.declared.item.Item.{Item}
use Rattle.scrib_script_reader.specs.declared.entry.Entry.{Entry}
use Rattle.scrib_script_reader.specs.Entries.{entry_items}
use Rattle.scrib_script_reader.specs.declared.limits.Limits.{Limits}
use Rattle.scrib_script_reader.specs.Limits.{IsWithinLimits}
use Rattle.scrib_script_reader.specs.Positions.{HasRead}
use Rattle.scrib_cli.specs.Scripts.{written}
use Rattle.scrib_closing.specs.declared.closing_monitor.ClosingMonitor.{ClosingMonitor}
use Rattle.scrib_closing.specs.declared.closing_run.ClosingRun.{ClosingRun}
use Rattle.scrib_closing.specs.ClosingScripts.{ClosesComplete, IsClosingOutput, IsClosingPart}

-- the items were carried out, from one state of a monitor to another, and the replies were put behind what was there
abbrev pub AreCarriedOut : Format → List Item → (w v : State) → (was now : List ℕ) → Type 0
AreCarriedOut o items w v was now =
    (carried : List Item) × (replies : List RequestReply) × ClosesComplete w items carried replies v
    × (now ≡ was ++ written o carried replies)

-- these bytes are a prefix of what may be written for the items
abbrev pub IsBeginningOf : Format → List Item → (w : State) → (part : List ℕ) → Type 0
IsBeginningOf o items w part =
    (carried : List Item) × (replies : List RequestReply) × (v : State) × (rest : List ℕ)
    × ClosesComplete w items carried replies v × (written o carried replies ≡ part ++ rest)

-- a prefix of what may be written for the items was put behind what was there
abbrev pub AreCarriedInPart : Format → List Item → (w : State) → (was now : List ℕ) → Type 0
AreCarriedInPart o items w was now = (part : List ℕ) × IsBeginningOf o items w part × (now ≡ was ++ part)

-- a monitor with this format took these entries, and gave this output
pub record HasTaken (o : Format) (m : ClosingMonitor) (entries : List Entry) (out : List ℕ) : Type 0 where
  pub format : m.format ≡ o
  pub carried : AreCarriedOut o (entry_items entries) initial (state_of m.core) [] out

-- the monitor took the entry, and gathered its output
pub record TakesEntry (old new : ClosingMonitor) (e : Entry) : Type 0 where
  pub out : List ℕ
  pub grows : new.gathered.bytes.items ≡ old.gathered.bytes.items ++ out
  pub after : (o : Format) (entries : List Entry) (before : List ℕ)
      → HasTaken o old entries before → HasTaken o new (entries ++ e ∷ []) (before ++ out)

-- the monitor failed at the entry, and gathered a beginning
pub record FailsAtEntry (old new : ClosingMonitor) (e : Entry) : Type 0 where
  pub out : List ℕ
  pub grows : new.gathered.bytes.items ≡ old.gathered.bytes.items ++ out
  pub after : (o : Format) (entries : List Entry) (before : List ℕ)
      → HasTaken o old entries before → IsBeginningOf o (entry_items (entries ++ e ∷ [])) initial (before ++ out)

-- a run with this format and limits consumed these bytes of its script, and gave this output
pub record HasClosingProgressed (o : Format) (m : Limits) (run : ClosingRun) (seen out : List ℕ) : Type 0 where
  pub entries : List Entry
  pub read : HasRead m run.script seen entries
  pub taken : HasTaken o run.monitor entries out

-- the run consumed the bytes, and gave this output
pub record ClosingRunAdvances (old new : ClosingRun) (bytes out : List ℕ) : Type 0 where
  pub goes : (o : Format) (m : Limits) (seen before : List ℕ) → HasClosingProgressed o m old seen before
      → HasClosingProgressed o m new (seen ++ bytes) (before ++ out)

-- the run failed within these bytes, and gave this output
pub record ClosingPieceFails (old : ClosingRun) (bytes out : List ℕ) : Type 0 where
  pub so : (o : Format) (m : Limits) (seen before : List ℕ) → HasClosingProgressed o m old seen before
      → (more : List ℕ) → IsClosingPart o (seen ++ (bytes ++ more)) (before ++ out)

-- a front of the bytes was consumed, and its output was gathered
pub record GathersClosingFront (old new : ClosingRun) (bytes rest : List ℕ) : Type 0 where
  pub front : List ℕ
  pub out : List ℕ
  pub is : bytes ≡ front ++ rest
  pub grows : new.monitor.gathered.bytes.items ≡ old.monitor.gathered.bytes.items ++ out
  pub went : ClosingRunAdvances old new front out

-- the run failed within these bytes, and gathered a beginning
pub record GatherFails (old new : ClosingRun) (bytes : List ℕ) : Type 0 where
  pub out : List ℕ
  pub grows : new.monitor.gathered.bytes.items ≡ old.monitor.gathered.bytes.items ++ out
  pub fails : ClosingPieceFails old bytes out

-- the run gave this output at the end of its script, which is within the limits
pub record ClosingEndSucceeds (old : ClosingRun) (out : List ℕ) : Type 0 where
  pub so : (o : Format) (m : Limits) (seen before : List ℕ) → HasClosingProgressed o m old seen before
      → IsClosingOutput o seen (before ++ out) × IsWithinLimits m seen

-- the run failed at the end of its script, and gave this output
pub record EndIsCut (old : ClosingRun) (out : List ℕ) : Type 0 where
  pub so : (o : Format) (m : Limits) (seen before : List ℕ) → HasClosingProgressed o m old seen before
      → IsClosingPart o seen (before ++ out)

-- these bytes were written
abbrev pub Writes : (List ℕ → Type 0) → Option (List ℕ) → Option (List ℕ) → Type 0
Writes P was now = (out : List ℕ) × P out × Appends was now out

-- some bytes were written, and the others of the output are gathered
abbrev pub WritesFirst : (List ℕ → Type 0) → (gathered : List ℕ) → (was now : Option (List ℕ)) → Type 0
WritesFirst P gathered was now = (out : List ℕ) × P (out ++ gathered) × Appends was now out

-- a run before its first byte
pub record IsNewClosing (o : Format) (m : Limits) (run : ClosingRun) : Type 0 where
  pub progress : HasClosingProgressed o m run [] []

-- a whole script, which is within the limits, was run
abbrev pub ClosingRunSucceeds : Format → Limits → Option (List ℕ) → (was now : Option (List ℕ)) → Type 0
ClosingRunSucceeds o m r was now =
    IfSome r (λ input. Writes (λ out. IsClosingOutput o input out) was now
    × IsWithinLimits m input)

-- a run of the script, where it is known, failed
abbrev pub ClosingRunFails : Format → Option (List ℕ) → (was now : Option (List ℕ)) → Type 0
ClosingRunFails o r was now = IfSome r (λ input. Writes (λ out. IsClosingPart o input out) was now)
