-- What is reported of the reply to a step (this project's own).
use Rattle.std.specs.Prelude.{◌≡◌, ℕ, Bool, List, [], Option, Some, None}
use Rattle.scrib_types.specs.declared.event.Action.{Action}
use Rattle.scrib_types.specs.declared.event.Event.{Event}
use Rattle.scrib_types.specs.declared.event.Told.{Told}
use Rattle.scrib_types.specs.declared.event.Told.TheVariants.{Stale, Judged}
use Rattle.scrib_types.specs.declared.event.Verdict.{Verdict}
use Rattle.scrib_types.specs.declared.event.Verdict.TheVariants as verdict
use Rattle.scrib_types.specs.declared.profile.Profile.{Profile}
use Rattle.scrib_library.specs.declared.changes.Changes.{Changes}
use Rattle.scrib_core.specs.declared.format.Format.{Format}
use Rattle.scrib_core.specs.declared.reply.Edit.{Edit}
use Rattle.scrib_core.specs.declared.reply.Refusal.{Refusal}
use Rattle.scrib_core.specs.declared.reply.Reply.{Reply}
use Rattle.scrib_core.specs.declared.reply.Reply.TheVariants as reply
use Rattle.scrib_core.specs.declared.step.Step.{Step}
use Rattle.scrib_core.specs.declared.step.Step.TheVariants.{Note, Turn, Ask}
use Rattle.scrib_core.specs.Answers.{State}
use Rattle.scrib_report.specs.LabelledReplies.{labelled_reply}
use Rattle.scrib_report.specs.PutBack.{ReplyLabel, bytes_of}
use Rattle.scrib_findings.specs.declared.finding.CleanVerdict.{CleanVerdict}
use Rattle.scrib_findings.specs.declared.finding.CleanVerdict.TheVariants as clean
use Rattle.scrib_findings.specs.declared.finding.ConversationId.{ConversationId}
use Rattle.scrib_findings.specs.declared.finding.Finding.{Finding}
use Rattle.scrib_findings.specs.declared.finding.Finding.TheVariants as finding
use Rattle.scrib_findings.specs.declared.finding.FoundOffence.{FoundOffence}
use Rattle.scrib_findings.specs.declared.finding.OffenceEnd.{OffenceEnd}
use Rattle.scrib_findings.specs.declared.finding.RefusedStep.{RefusedStep}
use Rattle.scrib_findings.specs.declared.finding.ReportedOffence.{ReportedOffence}
use Rattle.scrib_findings.specs.FindingTexts.{finding_text}
use Rattle.scrib_labelled.specs.LabelledRuns.{concerned}
use Rattle.scrib_reported.specs.declared.kept.KeptConversation.{KeptConversation}
use Rattle.scrib_reported.specs.FoundOffences.{IsOffenceIn, IsSame}
use Rattle.scrib_reported.specs.Kept.{IsKept, Keeping, nothing_kept, with_line}

-- the line of a step: its number, what is put back into the replies to it, and the format of what is written for it
pub record StepLine : Type 0 where
  pub number : ℕ
  pub label : ReplyLabel
  pub format : Format

-- a finding is of this conversation, by its name where the line has one
abbrev pub IsOf : StepLine → (id : ℕ) → ConversationId → Type 0
IsOf l id c = (c.number ≡ id) × (bytes_of c.name ≡ l.label.name)

-- the same, if there is a conversation
abbrev pub IsOfAny : StepLine → Option ℕ → Option ConversationId → Type 0
IsOfAny l None None = Unit {0}
IsOfAny l (Some id) (Some c) = IsOf l id c
IsOfAny l _ _ = ⊥

-- the finding has this offence of a conversation of this protocol, and was made at this line
pub record FindsOffence (l : StepLine) (id : ℕ) (protocol : List (List ℕ)) (o : ReportedOffence) (f : FoundOffence)
    : Type 0 where
  pub of : IsOf l id f.conversation
  pub protocol_is : f.protocol.now ≡ protocol
  pub offence_is : f.offence.now ≡ o
  pub found_at : f.found ≡ l.number

-- the finding has this offence, which ended with this verdict, of a conversation of this protocol, and was made at
-- this line
pub record FindsEnd (l : StepLine) (id : ℕ) (protocol : List (List ℕ)) (was : ReportedOffence) (v : CleanVerdict)
    (f : OffenceEnd) : Type 0 where
  pub of : IsOf l id f.conversation
  pub protocol_is : f.protocol.now ≡ protocol
  pub was_is : f.was.now ≡ was
  pub verdict_is : f.verdict ≡ v
  pub found_at : f.found ≡ l.number

-- the finding has this refusal of a step of this line, and the step's conversation, if it has one
pub record FindsRefusal (l : StepLine) (of : Option ℕ) (refusal : Refusal) (f : RefusedStep) : Type 0 where
  pub line_is : f.line ≡ l.number
  pub of_is : IsOfAny l of f.conversation
  pub refusal_is : f.refusal ≡ refusal

-- what is written for a finding at this line
abbrev pub found_text : StepLine → Finding → List ℕ
found_text l f = finding_text l.format l.label.tag f

-- What is written for a reply that is printed as without reports. It is no refusal, so the number of the step's
-- conversation is not put back.
abbrev pub reply_as_ever : StepLine → Reply → List ℕ
reply_as_ever l r = labelled_reply l.format l.label r

-- the verdict that is no offence
abbrev pub IsClean : Verdict → CleanVerdict → Type 0
IsClean verdict.Permitted v = v ≡ clean.Permitted
IsClean (verdict.Offence place role allowed) v = ⊥
IsClean verdict.Withdrawn v = v ≡ clean.Withdrawn

-- what is reported of an event is no offence
abbrev pub IsNoOffence : Told → Type 0
IsNoOffence Stale = Unit {0}
IsNoOffence (Judged verdict.Permitted) = Unit {0}
IsNoOffence (Judged (verdict.Offence place role allowed)) = ⊥
IsNoOffence (Judged verdict.Withdrawn) = Unit {0}

-- What is written for the reply to a step, in the state behind it, and what was and is kept of the step's conversation.
pub data Reports (l : StepLine) (s : State) : Step → Reply → (old new : KeptConversation) → List ℕ → Type 0 where
  -- each refused step is reported
  refuses : (made : Step) (f : Refusal) (k : KeptConversation) (found : RefusedStep)
      → FindsRefusal l (concerned made) f found
      → Reports l s made (reply.Refused f) k k (found_text l (finding.Refusal found))
  -- nothing is written for an opening
  opens : (made : Step) (id : ℕ) (name : List (List ℕ)) (k : KeptConversation)
      → Reports l s made (reply.Opened id name) k k []
  -- nor for an event without an offence, nor where an offence was reported before
  notes : (id i place : ℕ) (e : Event) (told : Told) (k : KeptConversation) → (k.offence ≡ None → IsNoOffence told)
      → Reports l s (Note id e) (reply.Noted i place told) k (with_line k l.number) []
  -- the first offence that an event makes is reported
  offends : (id i place at : ℕ) (e : Event) (role : List ℕ) (allowed : List Action) (protocol : List (List ℕ))
      (k : KeptConversation) (o : ReportedOffence) (found : FoundOffence) → k.offence ≡ None
      → IsOffenceIn s id (with_line k l.number).lines at allowed protocol o → FindsOffence l id protocol o found
      → Reports l s (Note id e) (reply.Noted i place (Judged (verdict.Offence at role allowed))) k
      (record { lines = (with_line k l.number).lines; offence = Some o }) (found_text l (finding.Offence found))
  -- nothing is written for a turn whose verdict is stale, or no offence where none was reported
  waits : (id i events : ℕ) (name : List (List ℕ)) (k : KeptConversation)
      → Reports l s (Turn id) (reply.Judged i name events Stale) k k []
  stays_clean : (id i events : ℕ) (name : List (List ℕ)) (v : Verdict) (c : CleanVerdict) (k : KeptConversation)
      → IsClean v c → k.offence ≡ None → Reports l s (Turn id) (reply.Judged i name events (Judged v)) k k []
  -- the end of an offence that was reported is reported
  ends : (id i events : ℕ) (name : List (List ℕ)) (v : Verdict) (c : CleanVerdict) (k : KeptConversation)
      (was : ReportedOffence) (found : OffenceEnd) → IsClean v c → k.offence ≡ Some was
      → FindsEnd l id name was c found
      → Reports l s (Turn id) (reply.Judged i name events (Judged v)) k (record { lines = k.lines; offence = None })
      (found_text l (finding.OffenceEnd found))
  -- nothing is written for a turn that finds the offence that was reported last
  stays : (id i events at : ℕ) (name protocol : List (List ℕ)) (role : List ℕ) (allowed : List Action)
      (k : KeptConversation) (was o : ReportedOffence) → IsOffenceIn s id k.lines at allowed protocol o
      → k.offence ≡ Some was → IsSame was o
      → Reports l s (Turn id) (reply.Judged i name events (Judged (verdict.Offence at role allowed))) k k []
  -- another offence is reported
  changes : (id i events at : ℕ) (name protocol : List (List ℕ)) (role : List ℕ) (allowed : List Action)
      (k : KeptConversation) (o : ReportedOffence) (found : FoundOffence)
      → IsOffenceIn s id k.lines at allowed protocol o
      → ((was : ReportedOffence) → k.offence ≡ Some was → IsSame was o → ⊥) → FindsOffence l id protocol o found
      → Reports l s (Turn id) (reply.Judged i name events (Judged (verdict.Offence at role allowed))) k
      (record { lines = k.lines; offence = Some o }) (found_text l (finding.Offence found))
  -- the replies to questions, edits, changes of the profile and closes are printed; nothing is kept behind a close
  answers : (id i events : ℕ) (name : List (List ℕ)) (told : Told) (k : KeptConversation)
      → Reports l s (Ask id) (reply.Judged i name events told) k k
      (reply_as_ever l (reply.Judged i name events told))
  edits : (made : Step) (edit : Edit) (changed : Changes) (k : KeptConversation)
      → Reports l s made (reply.Edited edit changed) k k (reply_as_ever l (reply.Edited edit changed))
  profiles : (made : Step) (p : Profile) (k : KeptConversation)
      → Reports l s made (reply.Profiled p) k k (reply_as_ever l (reply.Profiled p))
  closes : (made : Step) (i events : ℕ) (name : List (List ℕ)) (v : Verdict) (complete : Bool) (k : KeptConversation)
      → Reports l s made (reply.Closed i name events v complete) k nothing_kept
      (reply_as_ever l (reply.Closed i name events v complete))

-- what is kept of the step's conversation; nothing of a step without one
abbrev pub kept_of : Keeping → Option ℕ → KeptConversation
kept_of old None = nothing_kept
kept_of old (Some id) = old id

-- only what is kept of the step's conversation may have changed
abbrev pub IsKeptOf : (old : Keeping) → Option ℕ → (now : KeptConversation) → (new : Keeping) → Type 0
IsKeptOf old None now new = (i : ℕ) → new i ≡ old i
IsKeptOf old (Some id) now new = IsKept old id now new

-- this is written for the reply to a step, in the state behind it, where this was and is kept
pub record IsReported (l : StepLine) (s : State) (old new : Keeping) (made : Step) (r : Reply) (text : List ℕ)
    : Type 0 where
  pub now : KeptConversation
  pub reports : Reports l s made r (kept_of old (concerned made)) now text
  pub keeps : IsKeptOf old (concerned made) now new
