-- What a monitor that reports does with steps and items (this project's own). Only contracts of private functions cite
-- this file.
use Rattle.std.specs.Prelude.{◌≡◌, ℕ, Bool, false, if◌then◌else◌, List, ◌++◌, Option, Some, None, Result, Ok, Err}
use Rattle.scrib_core.specs.declared.conversation_steps.Noted.{Noted}
use Rattle.scrib_core.specs.declared.reply.Refusal.{Refusal}
use Rattle.scrib_core.specs.declared.reply.Reply.{Reply}
use Rattle.scrib_core.specs.declared.step.Step.{Step}
use Rattle.scrib_core.specs.Answers.{State, IsAnswered}
use Rattle.scrib_core.specs.Marks.{Fresh}
use Rattle.scrib_core.specs.Permitted.{is_permitted_verdict}
use Rattle.scrib_summary.specs.declared.summary.Summary.{Summary}
use Rattle.scrib_summary.specs.Summaries.{with_replies, with_reply}
use Rattle.scrib_sweep.specs.ConversationTurns.{AreTurnsOf}
use Rattle.scrib_closing.specs.ClosingScripts.{is_accepted}
use Rattle.scrib_labels.specs.Naming.{number_of}
use Rattle.scrib_report.specs.PutBack.{ReplyLabel, put_back_by}
use Rattle.scrib_script_reader.specs.declared.item.Item.{Item}
use Rattle.scrib_findings.specs.declared.finding.Finding.TheVariants as finding
use Rattle.scrib_findings.specs.declared.finding.FoundOffence.{FoundOffence}
use Rattle.scrib_labelled.specs.declared.labelled_monitor.Change.{Change}
use Rattle.scrib_labelled.specs.declared.label_options.LabelledStyle.{LabelledStyle}
use Rattle.scrib_labelled.specs.Changes.{IsChangeBy, after_change, change_by}
use Rattle.scrib_labelled.specs.LabelledEntries.{LabelledEntry, items_among}
use Rattle.scrib_labelled.specs.LabelledLines.{LineLabel}
use Rattle.scrib_labelled.specs.LabelledRuns.{Naming, after_replies}
use Rattle.scrib_reported.specs.declared.conversation_offence.ConversationOffence.{ConversationOffence}
use Rattle.scrib_reported.specs.declared.outcome.Outcome.{Outcome}
use Rattle.scrib_reported.specs.declared.reporter.Reporter.{Reporter}
use Rattle.scrib_reported.specs.declared.reporting_monitor.ReportingMonitor.{ReportingMonitor}
use Rattle.scrib_reported.specs.declared.step_head.StepHead.{StepHead}
use Rattle.scrib_reported.specs.CountedCores.{state_of}
use Rattle.scrib_reported.specs.Kept.{IsKept, Keeping, keeping}
use Rattle.scrib_reported.specs.ReportedReplies.{FindsOffence, IsReported, StepLine, found_text}
use Rattle.scrib_reported.specs.ReportedRuns.{Carries, Makes, ReportedRuns, ReportedSweep, SweepTurns, with_item}

-- the line of a step
abbrev pub line_of : StepHead → StepLine
line_of h = record { number = h.number; label = put_back_by h.label; format = h.format }

-- what is put back into the replies to a line with this number, this tag and this name
abbrev pub label_with : LabelledStyle → (number : ℕ) → (tag name : Option (List ℕ)) → ReplyLabel
label_with o number tag name =
    record { tag = tag; name = name; line = if o.lines then Some number else None; conversation = None }

-- the reply to a step was reported, in the state behind it
pub record Adds (h : StepHead) (s : State) (old new : Reporter) (made : Step) (r : Reply) : Type 0 where
  pub more : List ℕ
  pub reported : IsReported (line_of h) s (keeping old.kept) (keeping new.kept) made r more
  pub grows : new.text.items ≡ old.text.items ++ more

-- the offence was reported, and is kept as the last
pub record AddsOffence (h : StepHead) (id : ℕ) (old new : Reporter) (found : ConversationOffence) : Type 0 where
  pub given : FoundOffence
  pub finds : FindsOffence (line_of h) id found.protocol found.offence given
  pub grows : new.text.items ≡ old.text.items ++ found_text (line_of h) (finding.Offence given)
  pub keeps : IsKept (keeping old.kept) id
      (record { lines = (keeping old.kept id).lines; offence = Some found.offence }) (keeping new.kept)

-- whether a note was accepted, and its verdict is `Permitted`
abbrev pub is_permitted_note : Result Noted Refusal → Bool
is_permitted_note (Ok n) = is_permitted_verdict n.told
is_permitted_note (Err f) = false

-- the state of a monitor
abbrev pub state_in : ReportingMonitor → State
state_in m = state_of m.core

-- what the replies of a monitor come to so far
abbrev pub counted_in : ReportingMonitor → Summary
counted_in m = m.core.summary

-- what a monitor keeps of each conversation
abbrev pub kept_in : ReportingMonitor → Keeping
kept_in m = keeping m.reporter.kept

-- a step was made, and its reply was reported
pub record MakesStep (h : StepHead) (old new : ReportingMonitor) (made : Step) (o : Outcome) : Type 0 where
  pub reply : Reply
  pub answered : IsAnswered (state_in old) made reply (state_in new)
  pub adds : Adds h (state_in new) old.reporter new.reporter made reply
  pub counted : counted_in new ≡ with_reply reply (counted_in old)
  pub change_is : o.change ≡ change_by reply
  pub accepted_is : o.accepted ≡ is_accepted reply

-- the reply to a step was reported, and what is written for it was gathered
pub record GathersReply (h : StepHead) (old new : ReportingMonitor) (made : Step) (r : Reply) : Type 0 where
  pub more : List ℕ
  pub reported : IsReported (line_of h) (state_in old) (kept_in old) (kept_in new) made r more
  pub grows : new.gathered.bytes.items ≡ old.gathered.bytes.items ++ more

-- the same, with the close of the conversation that the step completed, if that is closed
pub record MakesAll (h : StepHead) (old new : ReportingMonitor) (made : Step) (c : Change) : Type 0 where
  pub replies : List Reply
  pub more : List ℕ
  pub makes : Makes old.style.closes (line_of h) (kept_in old) (state_in old) made (kept_in new) (state_in new) replies
      more
  pub changes : IsChangeBy replies c
  pub counted : counted_in new ≡ with_replies replies (counted_in old)
  pub grows : new.reporter.text.items ≡ old.reporter.text.items ++ more

-- turns of a sweep were made and reported, and each was accepted, or the last one was refused
pub record MakesTurns (h : StepHead) (old new : ReportingMonitor) (accepted : Bool) : Type 0 where
  pub replies : List Reply
  pub more : List ℕ
  pub turns : SweepTurns (number_of old.names) (line_of h) (kept_in old) (state_in old) accepted (kept_in new)
      (state_in new) replies more
  pub counted : counted_in new ≡ with_replies replies (counted_in old)
  pub grows : new.reporter.text.items ≡ old.reporter.text.items ++ more

-- turns of this conversation were made, which leave the marks of the others, and it is not stale behind them
pub record RenewsConversation (s : State) (id : ℕ) (t : State) : Type 0 where
  pub count : ℕ
  pub made : AreTurnsOf s id count t
  pub fresh : t.marks id ≡ Fresh

-- a sweep was made and reported
pub record MakesSweep (h : StepHead) (old new : ReportingMonitor) : Type 0 where
  pub replies : List Reply
  pub more : List ℕ
  pub sweeps : ReportedSweep (number_of old.names) (line_of h) (kept_in old) (state_in old) (kept_in new)
      (state_in new) replies more
  pub counted : counted_in new ≡ with_replies replies (counted_in old)
  pub grows : new.reporter.text.items ≡ old.reporter.text.items ++ more

-- the replies change this in the numbers of names
abbrev pub Renames : List Reply → Change → Type 0
Renames replies c =
    (names : Naming) (session : Option (List ℕ × ℕ)) (name : List ℕ)
    → after_change names session c name ≡ after_replies names session replies name

-- the item of a line with this label was carried out, and made this text
pub record CarriesItem (old new : ReportingMonitor) (label : LineLabel) (i : Item) (c : Change) : Type 0 where
  pub replies : List Reply
  pub carries : Carries old.style (number_of old.names) label (kept_in old) (state_in old) i (kept_in new)
      (state_in new) replies new.reporter.text.items
  pub renames : Renames replies c
  pub counted : counted_in new ≡ with_item i replies (counted_in old)

-- the same, and its text was gathered
pub record CarriesOut (old new : ReportingMonitor) (label : LineLabel) (i : Item) : Type 0 where
  pub style : new.style ≡ old.style
  pub replies : List Reply
  pub more : List ℕ
  pub carries : Carries old.style (number_of old.names) label (kept_in old) (state_in old) i (kept_in new)
      (state_in new) replies more
  pub named : (name : List ℕ)
      → number_of new.names name ≡ after_replies (number_of old.names) label.session replies name
  pub counted : counted_in new ≡ with_item i replies (counted_in old)
  pub grows : new.gathered.bytes.items ≡ old.gathered.bytes.items ++ more

-- ---- the monitor as a stage

-- the bytes that a monitor gathered
abbrev pub gathered_by : ReportingMonitor → List ℕ
gathered_by m = m.gathered.bytes.items

-- the items were carried out to what this monitor is, with this output
abbrev pub Ran : LabelledStyle → List (LineLabel × Item) → ReportingMonitor → (output : List ℕ) → Type 0
Ran o items m output = ReportedRuns o items (number_of m.names) (kept_in m) (state_in m) (counted_in m) output

-- the items of these entries were carried out since the monitor was new, with this output
abbrev pub RanEntries : (new now : ReportingMonitor) → List LabelledEntry → (output : List ℕ) → Type 0
RanEntries new now entries output = (now.style ≡ new.style) × Ran new.style (items_among entries) now output

-- the output is a beginning of what the items of these entries give where a new monitor carries them out
pub record BeginsOutput (new : ReportingMonitor) (entries : List LabelledEntry) (part : List ℕ) : Type 0 where
  pub names : Naming
  pub kept : Keeping
  pub after : State
  pub counted : Summary
  pub output : List ℕ
  pub runs : ReportedRuns new.style (items_among entries) names kept after counted output
  pub rest : List ℕ
  pub begins : output ≡ part ++ rest
