-- What `show` prints of a conversation of a script (this project's own).
use Rattle.std.specs.Prelude.{◌≡◌, ◌↔◌, ℕ, Bool, true, false, IsTrue, List, [], take, Option, Some, None, All, codes}
use Rattle.scrib_types.specs.declared.event.Event.{Event}
use Rattle.scrib_types.specs.Agreement.{Agreement}
use Rattle.scrib_types.specs.Complete.{IsComplete}
use Rattle.scrib_types.specs.Logs.{subject_of}
use Rattle.scrib_library.specs.Modules.{IsMeaning}
use Rattle.scrib_core.specs.World.{Conversation, conversation}
use Rattle.scrib_core.specs.Marks.{IsStale}
use Rattle.scrib_core.specs.Answers.{State, initial}
use Rattle.scrib_global.specs.declared.explain.Flight.{Flight}
use Rattle.scrib_global.specs.declared.next.RoleStatus.{RoleStatus}
use Rattle.scrib_global.specs.Explained.{IsExplained}
use Rattle.scrib_global.specs.NextEvents.{AreNext}
use Rattle.scrib_reasons.specs.declared.reason.Reason.{Reason}
use Rattle.scrib_script_reader.specs.declared.entry.Entry.{Entry}
use Rattle.scrib_script_reader.specs.Entries.{SpellsEntries, entry_items}
use Rattle.scrib_script_reader.specs.Scripts.{lines, requests_of}
use Rattle.scrib_cli.specs.Requests.{RequestReply, HasMemory, AnswersRequests}
use Rattle.scrib_cli.specs.Explanations.{refusal_line}
use Rattle.scrib_show.specs.declared.show_form.ShowForm.{ShowForm}
use Rattle.scrib_show.specs.declared.show_form.ShowForm.TheVariants.{Text, Chart}
use Rattle.scrib_show.specs.Charts.{IsChart}
use Rattle.scrib_show.specs.EventLines.{event_lines, HasEventFor}
use Rattle.scrib_show.specs.Offence.{IsOffence}
use Rattle.scrib_show.specs.Pages.{withdrawn_page, permitted_page, offence_page}

-- the conversation under the id, and whether the verdict that the monitor reports on it is stale
pub record IsOpen (s : State) (id : ℕ) (c : Conversation) (stale : Bool) : Type 0 where
  pub there : conversation s.world id ≡ Some c
  pub reported : IsTrue stale ↔ IsStale (s.marks id)

-- these messages are in flight after the permitted log, and this is what each declared role may do next
pub record IsAfter (a : Agreement) (log : List Event) (flights : List Flight) (roles : List RoleStatus) : Type 0 where
  pub explained : IsExplained a log flights
  pub next : AreNext a log roles

-- What is printed of an open conversation whose protocol has this meaning, if it has one. The numbers are those of the
-- lines that noted its events. The last ten events are printed, or after an offence the last ten up to it. Messages in
-- flight and roles are those after the log, or after the events before the offence.
pub data IsPage (c : Conversation) (stale : Bool) (numbers : List ℕ) : Option Agreement → List ℕ → Type 0 where
  withdrawn : IsPage c stale numbers None (withdrawn_page c stale numbers)
  permits : (a : Agreement) (flights : List Flight) (roles : List RoleStatus) (complete : Bool)
      → IsAfter a c.log flights roles → (IsTrue complete ↔ IsComplete a c.log)
      → IsPage c stale numbers (Some a) (permitted_page c stale numbers complete flights roles)
  offends : (a : Agreement) (flights : List Flight) (roles : List RoleStatus) (i : ℕ) (e : Event) (reason : Reason)
      → IsOffence a c.log i e reason → IsAfter a (take i c.log) flights roles
      → IsPage c stale numbers (Some a) (offence_page c stale numbers i (subject_of e) reason flights roles)

-- What is shown of an open conversation in this form, and whether that is no refusal.
abbrev pub IsShownAs : ShowForm → Conversation → (stale : Bool) (numbers : List ℕ) → Option Agreement → Bool → List ℕ
    → Type 0
IsShownAs Text c stale numbers o shown text = (shown ≡ true) × IsPage c stale numbers o text
IsShownAs Chart c stale numbers o shown text = IsChart c.log o shown text

-- What is shown in this form of a conversation in a state, and whether that is no refusal. The log is judged by the
-- present meaning of the protocol, also where the reported verdict is stale.
pub data Shown (form : ShowForm) (s : State) (id : ℕ) (numbers : List ℕ) : Bool → List ℕ → Type 0 where
  absent : conversation s.world id ≡ None → Shown form s id numbers false (refusal_line (codes "NoConversation"))
  present : (c : Conversation) (stale : Bool) (o : Option Agreement) (shown : Bool) (text : List ℕ)
      → IsOpen s id c stale → IsMeaning s.world.modules c.name o → IsShownAs form c stale numbers o shown text
      → Shown form s id numbers shown text

-- An output of `show` in this form for a conversation of a script, whose steps and sweeps are made over a new monitor
-- and are not refused memory. It is shown in the state after them, with the numbers of the lines that noted its events.
pub record IsShowOutput (form : ShowForm) (input : List ℕ) (id : ℕ) (shown : Bool) (output : List ℕ) : Type 0 where
  pub entries : List Entry
  pub replies : List RequestReply
  pub after : State
  pub spelled : SpellsEntries 1 None (lines input) entries
  pub answered : AnswersRequests initial (requests_of (entry_items entries)) replies after
  pub none_refused : All HasMemory replies
  pub paired : HasEventFor after.world id (event_lines id spelled replies [])
  pub is : Shown form after id (event_lines id spelled replies []) shown output
