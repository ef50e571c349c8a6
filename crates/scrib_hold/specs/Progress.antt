-- The progress of a run with held events: what its functions promise one another (this project's own). Only contracts
-- of private functions cite this file.
use Rattle.std.specs.Prelude.{◌≡◌, ℕ, List, [], ◌++◌, Option, None, IfSome}
use Rattle.std.specs.Io.KnownBytes.{Appends}
use Rattle.scrib_core.specs.declared.format.Format.{Format}
use Rattle.scrib_core.specs.Answers.{initial}
use Rattle.scrib_core.specs.Held.{state_of}
use Rattle.scrib_script_reader.specs.declared.entry.Entry.{Entry}
use Rattle.scrib_script_reader.specs.Scripts.{lines}
use Rattle.scrib_script_reader.specs.Entries.{SpellsEntries}
use Rattle.scrib_script_reader.specs.declared.limits.Limits.{Limits}
use Rattle.scrib_script_reader.specs.Limits.{IsWithinLimits}
use Rattle.scrib_script_reader.specs.Positions.{HasRead}
use Rattle.scrib_hold_stage.specs.declared.stage.Counts.{Counts}
use Rattle.scrib_hold.specs.declared.replies.Replies.{Replies}
use Rattle.scrib_hold.specs.declared.held_monitor.HeldMonitor.{HeldMonitor}
use Rattle.scrib_hold.specs.declared.held_run.HeldRun.{HeldRun}
use Rattle.scrib_hold.specs.HeldScripts.{IsHeldOutput, IsHeldPart}
use Rattle.scrib_hold.specs.NumberedItems.{Numbered, items_in}
use Rattle.scrib_hold.specs.HeldMonitors.{HasTaken}
use Rattle.scrib_hold.specs.Replies.{AreCarriedOut}

-- A monitor with this format and bound took these entries, and gave this output: the replies to what they let out.
pub record HasGiven (o : Format) (bound : ℕ) (m : HeldMonitor Replies) (entries : List Entry) (out : List ℕ)
    : Type 0 where
  pub format : m.sink.format ≡ o
  pub numbered : List Numbered
  pub taken : HasTaken bound m entries numbered
  pub carried : AreCarriedOut o (items_in numbered) initial (state_of m.sink.core) [] out

-- a run with this format, bound and limits consumed these bytes of its script, and gave this output
pub record HasHeldProgressed (o : Format) (bound : ℕ) (m : Limits) (run : HeldRun) (seen out : List ℕ) : Type 0 where
  pub entries : List Entry
  pub read : HasRead m run.script seen entries
  pub taken : HasGiven o bound run.monitor entries out

-- the run consumed the bytes, and gave this output
pub record HeldRunAdvances (old new : HeldRun) (bytes out : List ℕ) : Type 0 where
  pub goes : (o : Format) (bound : ℕ) (m : Limits) (seen before : List ℕ) → HasHeldProgressed o bound m old seen before
      → HasHeldProgressed o bound m new (seen ++ bytes) (before ++ out)

-- the run failed within these bytes, and gave this output
pub record HeldPieceFails (old : HeldRun) (bytes out : List ℕ) : Type 0 where
  pub so : (o : Format) (bound : ℕ) (m : Limits) (seen before : List ℕ) → HasHeldProgressed o bound m old seen before
      → (more : List ℕ) → IsHeldPart o bound (seen ++ (bytes ++ more)) (before ++ out)

-- a front of the bytes was consumed, and its output was gathered
pub record GathersHeldFront (old new : HeldRun) (bytes rest : List ℕ) : Type 0 where
  pub front : List ℕ
  pub out : List ℕ
  pub is : bytes ≡ front ++ rest
  pub grows : new.monitor.sink.gathered.bytes.items ≡ old.monitor.sink.gathered.bytes.items ++ out
  pub went : HeldRunAdvances old new front out

-- the run failed within these bytes, and gathered a beginning
pub record GatherFails (old new : HeldRun) (bytes : List ℕ) : Type 0 where
  pub out : List ℕ
  pub grows : new.monitor.sink.gathered.bytes.items ≡ old.monitor.sink.gathered.bytes.items ++ out
  pub fails : HeldPieceFails old bytes out

-- the monitor took the entry of the script's last line, if there is one, and gathered what this lets out
pub record TakesLast (old : HeldRun) (monitor : HeldMonitor Replies) : Type 0 where
  pub out : List ℕ
  pub grows : monitor.sink.gathered.bytes.items ≡ out
  pub so : (o : Format) (bound : ℕ) (m : Limits) (seen before : List ℕ) → HasHeldProgressed o bound m old seen before
      → (entries : List Entry) × SpellsEntries 1 None (lines seen) entries
      × HasGiven o bound monitor entries (before ++ out) × IsWithinLimits m seen

-- the run gave this output at the end of its script, which is within the limits
pub record HeldEndSucceeds (old : HeldRun) (counts : Counts) (out : List ℕ) : Type 0 where
  pub so : (o : Format) (bound : ℕ) (m : Limits) (seen before : List ℕ) → HasHeldProgressed o bound m old seen before
      → IsHeldOutput o bound seen counts (before ++ out) × IsWithinLimits m seen

-- the run failed at the end of its script, and gave this output
pub record EndIsCut (old : HeldRun) (out : List ℕ) : Type 0 where
  pub so : (o : Format) (bound : ℕ) (m : Limits) (seen before : List ℕ) → HasHeldProgressed o bound m old seen before
      → IsHeldPart o bound seen (before ++ out)

-- these bytes were written
abbrev pub Writes : (List ℕ → Type 0) → Option (List ℕ) → Option (List ℕ) → Type 0
Writes P was now = (out : List ℕ) × P out × Appends was now out

-- some bytes were written, and the others of the output are gathered
abbrev pub WritesFirst : (List ℕ → Type 0) → (gathered : List ℕ) → (was now : Option (List ℕ)) → Type 0
WritesFirst P gathered was now = (out : List ℕ) × P (out ++ gathered) × Appends was now out

-- a run before its first byte
pub record IsNewHeld (o : Format) (bound : ℕ) (m : Limits) (run : HeldRun) : Type 0 where
  pub progress : HasHeldProgressed o bound m run [] []

-- a whole script, which is within the limits, was run, and these are the counts of its events
abbrev pub HeldRunSucceeds : Format → ℕ → Limits → Option (List ℕ) → Counts → (was now : Option (List ℕ)) → Type 0
HeldRunSucceeds o bound m r counts was now =
    IfSome r (λ input. Writes (λ out. IsHeldOutput o bound input counts out) was now
    × IsWithinLimits m input)

-- a run of the script, where it is known, failed
abbrev pub HeldRunFails : Format → ℕ → Option (List ℕ) → (was now : Option (List ℕ)) → Type 0
HeldRunFails o bound r was now = IfSome r (λ input. Writes (λ out. IsHeldPart o bound input out) was now)
