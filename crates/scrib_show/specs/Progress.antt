-- What the functions behind `show` promise one another (this project's own).
-- Only contracts of private functions cite this file.
use Rattle.std.specs.Prelude.{◌≡◌, ℕ, ◌+◌, Bool, true, false, List, [], ◌∷◌, ◌++◌, Option, Some, None, All, IfSome, Result, Ok, Err, length}
use Rattle.scrib_types.specs.declared.event.Event.{Event}
use Rattle.scrib_types.specs.declared.event.Told.{Told}
use Rattle.scrib_types.specs.declared.event.Told.TheVariants as tell
use Rattle.scrib_types.specs.Agreement.{Agreement}
use Rattle.scrib_global.specs.declared.fault.ExplainFault.{ExplainFault}
use Rattle.scrib_global.specs.declared.fault.ExplainFault.TheVariants.{NotPermitted, OutOfMemory}
use Rattle.scrib_global.specs.Offences.{Offends}
use Rattle.scrib_core.specs.declared.reply.Reply.{Reply}
use Rattle.scrib_core.specs.Answers.{State, initial, IsAnswered}
use Rattle.scrib_core.specs.Held.{state_of}
use Rattle.scrib_script_reader.specs.declared.item.Item.TheVariants as item
use Rattle.scrib_script_reader.specs.declared.entry.Entry.{Entry}
use Rattle.scrib_script_reader.specs.declared.entry.Entry.TheVariants as entry
use Rattle.scrib_script_reader.specs.declared.limits.Limits.{Limits}
use Rattle.scrib_script_reader.specs.Limits.{IsWithinLimits}
use Rattle.scrib_script_reader.specs.Scripts.{lines, requests_of}
use Rattle.scrib_sweep.specs.Sweeps.{IsSwept}
use Rattle.scrib_cli.specs.Requests.{RequestReply, OfStep, OfSweep, HasMemory, AnswersRequests}
use Rattle.scrib_script_reader.specs.Entries.{SpellsEntries, entry_items}
use Rattle.scrib_script_reader.specs.Positions.{HasRead}
use Rattle.scrib_core.specs.World.{Conversation}
use Rattle.scrib_show.specs.declared.after.After.{After}
use Rattle.scrib_show.specs.declared.page.Page.{Page}
use Rattle.scrib_show.specs.declared.line_monitor.LineMonitor.{LineMonitor}
use Rattle.scrib_show.specs.declared.show_run.ShowRun.{ShowRun}
use Rattle.scrib_show.specs.EventLines.{lines_after, event_lines, HasEventFor}
use Rattle.scrib_show.specs.Shown.{IsAfter}

-- whether this is reported as stale
abbrev pub is_stale : Told → Bool
is_stale tell.Stale = true
is_stale (tell.Judged v) = false

-- the conversation of a page
abbrev pub conversation_of : Page → Conversation
conversation_of page = record { name = page.name.now; log = page.log.now }

-- what is known after the log, or the first offence; memory may be refused
abbrev pub FindsAfter : Agreement → List Event → Result After ExplainFault → Type 0
FindsAfter a log (Ok after) = IsAfter a log after.flights.items after.roles.items
FindsAfter a log (Err (NotPermitted place)) = (i : ℕ) × (place ≡ i + 1) × Offends a log i
FindsAfter a log (Err OutOfMemory) = Unit {0}

-- the monitor made no step or sweep, and keeps its numbers
pub record KeepsLines (old new : LineMonitor) : Type 0 where
  pub state : state_of new.core ≡ state_of old.core
  pub numbers : new.numbers.items ≡ old.numbers.items

-- what the monitor did with the entry of line n
abbrev pub Takes : (old new : LineMonitor) (n : ℕ) → Entry → Type 0
Takes old new n (entry.Item (item.Step f s)) =
    (r : Reply) × IsAnswered (state_of old.core) s r (state_of new.core) × HasMemory (OfStep r)
    × (new.numbers.items ≡ lines_after old.id old.numbers.items n (OfStep r))
Takes old new n (entry.Item (item.Sweep f)) =
    (judged : Option ℕ) × IsSwept (state_of old.core) judged (state_of new.core) × HasMemory (OfSweep judged)
    × (new.numbers.items ≡ old.numbers.items)
Takes old new n (entry.Item (item.BadLine k)) = KeepsLines old new
Takes old new n (entry.Item item.EndOfText) = KeepsLines old new
Takes old new n entry.Skipped = KeepsLines old new

-- The numbers are those of the lines that noted the conversation's events, whatever follows these entries of a script
-- that begins with these bytes, and these are the replies.
abbrev pub AreEventLines : (id : ℕ) (seen : List ℕ) → List Entry → List RequestReply → (numbers : List ℕ) → Type 0
AreEventLines id seen entries replies numbers =
    (more : List ℕ) (rest : List Entry) (spelled : SpellsEntries 1 None (lines (seen ++ more)) (entries ++ rest))
    → event_lines id spelled replies [] ≡ numbers

-- a run with these limits consumed these bytes of its script, and made its steps
pub record HasFollowed (m : Limits) (run : ShowRun) (seen : List ℕ) : Type 0 where
  pub entries : List Entry
  pub replies : List RequestReply
  pub read : HasRead m run.script seen entries
  pub answered : AnswersRequests initial (requests_of (entry_items entries)) replies (state_of run.monitor.core)
  pub made : All HasMemory replies
  pub numbered : AreEventLines run.monitor.id seen entries replies run.monitor.numbers.items

-- the monitor has a number for each event of its conversation
abbrev pub IsPaired : LineMonitor → Type 0
IsPaired monitor = HasEventFor (state_of monitor.core).world monitor.id monitor.numbers.items

-- a run before its first byte
pub record IsNewRun (m : Limits) (id : ℕ) (run : ShowRun) : Type 0 where
  pub id_is : run.monitor.id ≡ id
  pub paired : IsPaired run.monitor
  pub followed : HasFollowed m run []

-- the run consumed the bytes, and made the steps that they spell
pub record FollowsBytes (old new : ShowRun) (bytes : List ℕ) : Type 0 where
  pub id_is : new.monitor.id ≡ old.monitor.id
  pub pairs : IsPaired old.monitor → IsPaired new.monitor
  pub goes : (m : Limits) (seen : List ℕ) → HasFollowed m old seen → HasFollowed m new (seen ++ bytes)

-- a front of the bytes was consumed
pub record FollowsFront (old new : ShowRun) (bytes rest : List ℕ) : Type 0 where
  pub front : List ℕ
  pub is : bytes ≡ front ++ rest
  pub went : FollowsBytes old new front

-- The whole script was read, which is within the limits. This is the state after its steps, and these are the numbers
-- of the lines that noted the conversation's events.
pub record IsRead (m : Limits) (id : ℕ) (input : List ℕ) (after : State) (numbers : List ℕ) : Type 0 where
  pub entries : List Entry
  pub replies : List RequestReply
  pub spelled : SpellsEntries 1 None (lines input) entries
  pub answered : AnswersRequests initial (requests_of (entry_items entries)) replies after
  pub made : All HasMemory replies
  pub numbers_are : event_lines id spelled replies [] ≡ numbers
  pub within : IsWithinLimits m input

-- the run made the steps of the end of its script
pub record FollowsEnd (old new : ShowRun) : Type 0 where
  pub id_is : new.monitor.id ≡ old.monitor.id
  pub pairs : IsPaired old.monitor → IsPaired new.monitor
  pub so : (m : Limits) (seen : List ℕ) → HasFollowed m old seen
      → IsRead m old.monitor.id seen (state_of new.monitor.core) new.monitor.numbers.items

-- The whole script, where it is known, was read by the run.
pub record HasReadScript (m : Limits) (id : ℕ) (r : Option (List ℕ)) (monitor : LineMonitor) : Type 0 where
  pub id_is : monitor.id ≡ id
  pub paired : IsPaired monitor
  pub read : IfSome r (λ input. IsRead m id input (state_of monitor.core) monitor.numbers.items)
