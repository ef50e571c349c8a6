-- What replies change in which conversations are open, and what a monitor does with an item (this project's own).
use Rattle.std.specs.Prelude.{◌≡◌, ◌≢◌, ℕ, false, List, [], ◌∷◌, ◌++◌, Option, Some, None}
use Rattle.std.specs.Map.{update}
use Rattle.std.specs.Str.{bytes_eq}
use Rattle.scrib_types.specs.declared.event.Event.{Event}
use Rattle.scrib_core.specs.declared.format.Format.TheVariants as formats
use Rattle.scrib_core.specs.declared.reply.Reply.{Reply}
use Rattle.scrib_core.specs.declared.reply.Reply.TheVariants as reply
use Rattle.scrib_core.specs.declared.step.Step.TheVariants.{Note}
use Rattle.scrib_report.specs.PutBack.{ReplyLabel}
use Rattle.scrib_script_reader.specs.declared.item.Item.{Item}
use Rattle.scrib_script_reader.specs.declared.item.Item.TheVariants as item
use Rattle.scrib_labelled.specs.declared.labelled_monitor.Change.{Change}
use Rattle.scrib_labelled.specs.declared.labelled_monitor.Change.TheVariants as change
use Rattle.scrib_labelled.specs.declared.labelled_monitor.LabelledMonitor.{LabelledMonitor}
use Rattle.scrib_labelled.specs.CheckedCores.{GotMemory, state_of}
use Rattle.scrib_labelled.specs.LabelledRuns.{Naming, Takes}

-- what a reply changes
abbrev pub change_by : Reply → Change
change_by (reply.Opened id name) = change.Opened
change_by (reply.Closed id name events verdict complete) = change.Closed
change_by _ = change.Unchanged

-- the replies change this: no reply changes nothing, and of two only the second may change something
abbrev pub IsChangeBy : List Reply → Change → Type 0
IsChangeBy [] c = c ≡ change.Unchanged
IsChangeBy (r ∷ []) c = c ≡ change_by r
IsChangeBy (r ∷ q ∷ rs) c = (rs ≡ []) × (change_by r ≡ change.Unchanged) × (c ≡ change_by q)

-- the monitor carried the item out with this label, and made this text; this changed
pub record TakesItem (old new : LabelledMonitor) (l : ReplyLabel) (i : Item) (text : List ℕ) (c : Change)
    : Type 0 where
  pub style : new.style ≡ old.style
  pub replies : List Reply
  pub takes : Takes old.style l (state_of old.core) i (state_of new.core) replies text
  pub changes : IsChangeBy replies c
  pub memory : old.style.closes ≡ false → GotMemory old.core new.core replies

-- the monitor noted the event, and gathered the replies with this label; this changed, and nothing was opened
pub record NotesEvent (old new : LabelledMonitor) (l : ReplyLabel) (id : ℕ) (e : Event) (c : Change)
    : Type 0 where
  pub text : List ℕ
  pub takes : TakesItem old new l (item.Step formats.Line (Note id e)) text c
  pub opens : c ≢ change.Opened
  pub grows : new.gathered.bytes.items ≡ old.gathered.bytes.items ++ text

-- what is put back into the lines of a text, which have no numbers
abbrev pub put_back_in_text : (tag name : Option (List ℕ)) → ReplyLabel
put_back_in_text tag name = record { tag = tag; name = name; line = None; conversation = None }

-- the numbers of names behind a change in the conversation of a session
abbrev pub after_change : Naming → Option (List ℕ × ℕ) → Change → Naming
after_change names None c = names
after_change names (Some s) change.Opened = update bytes_eq names s.0 (Some s.1)
after_change names (Some s) change.Closed = update bytes_eq names s.0 None
after_change names (Some s) change.Unchanged = names
