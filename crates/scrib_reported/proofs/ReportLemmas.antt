-- The reports of replies, and what is kept behind them.
use Rattle.std.proofs.Common.{◌≡◌, ℕ, Bool, true, false, List, [], ◌++◌, Option, Some, None, refl, sym, ap, subst, ◌∙◌}
use Rattle.std.specs.Borrow.{Bor}
use Rattle.std.specs.Option.{option_copied}
use Rattle.std.specs.Prelude.{is_some}
use Rattle.std.proofs.lemmas.Bool.{false≢true}
use Rattle.std.proofs.lemmas.List.{append-nil}
use Rattle.scrib_types.specs.declared.event.Action.{Action}
use Rattle.scrib_types.specs.declared.event.Event.{Event}
use Rattle.scrib_types.specs.declared.event.Told.{Told}
use Rattle.scrib_types.specs.declared.event.Told.TheVariants.{Judged}
use Rattle.scrib_types.specs.declared.event.Verdict.{Verdict}
use Rattle.scrib_types.specs.declared.event.Verdict.TheVariants.{Offence}
use Rattle.scrib_core.specs.declared.reply.Refusal.{Refusal}
use Rattle.scrib_core.specs.declared.reply.Reply.{Reply}
use Rattle.scrib_core.specs.declared.reply.Reply.TheVariants as reply
use Rattle.scrib_core.specs.declared.step.Step.{Step}
use Rattle.scrib_core.specs.declared.step.Step.TheVariants as step
use Rattle.scrib_core.specs.Answers.{State, IsAccepted, IsAnswered}
use Rattle.scrib_closing.specs.ClosingScripts.{is_accepted, judged_by}
use Rattle.scrib_findings.specs.declared.finding.CleanVerdict.{CleanVerdict}
use Rattle.scrib_findings.specs.declared.finding.Finding.TheVariants as finding
use Rattle.scrib_findings.specs.declared.finding.OffenceEnd.{OffenceEnd}
use Rattle.scrib_findings.specs.declared.finding.RefusedStep.{RefusedStep}
use Rattle.scrib_findings.specs.declared.finding.ReportedOffence.{ReportedOffence}
use Rattle.scrib_labelled.specs.declared.labelled_monitor.Change.TheVariants as change
use Rattle.scrib_labelled.specs.Changes.{change_by}
use Rattle.scrib_labelled.specs.LabelledRuns.{concerned}
use Rattle.scrib_reported.specs.declared.conversation_offence.ConversationOffence.{ConversationOffence}
use Rattle.scrib_reported.specs.declared.kept.KeptConversation.{KeptConversation}
use Rattle.scrib_reported.specs.declared.kept.KeptConversations.{KeptConversations}
use Rattle.scrib_reported.specs.declared.reporter.Reporter.{Reporter}
use Rattle.scrib_reported.specs.declared.step_head.StepHead.{StepHead}
use Rattle.scrib_reported.specs.FoundOffences.{IsOffenceIn, IsSame}
use Rattle.scrib_reported.specs.Kept.{IsKept, keeping, nothing_kept, with_line}
use Rattle.scrib_reported.specs.Monitors.{Adds, AddsOffence, line_of}
use Rattle.scrib_reported.specs.ReportedReplies as replies
use Rattle.scrib_reported.specs.ReportedReplies.{FindsEnd, IsClean, IsNoOffence, IsOfAny, Reports, found_text, kept_of, reply_as_ever}
use Rattle.scrib_reported.proofs.KeptLemmas.{kept_itself, kept_of_unchanged, kept_twice}

-- ---- replies that change nothing of what is kept

-- the text of a report is added
pub adds_text : (h : StepHead) (s : State) (old new : Reporter) (made : Step) (r : Reply) (text : List ℕ) → Reports (line_of h) s made r (kept_of (keeping old.kept) (concerned made)) (kept_of (keeping old.kept) (concerned made)) text
    → new.kept ≡ old.kept → new.text.items ≡ old.text.items ++ text → Adds h s old new made r
adds_text h s old new made r text reports same grows = record {
  more = text;
  reported = record {
    now = kept_of (keeping old.kept) (concerned made);
    reports = reports;
    keeps = subst (λ (k : KeptConversations). replies.IsKeptOf (keeping old.kept) (concerned made) (kept_of (keeping old.kept) (concerned made)) (keeping k)) (sym same) (kept_of_unchanged (keeping old.kept) (concerned made));
  };
  grows = grows;
}

-- nothing is added
pub adds_nothing : (h : StepHead) (s : State) (old : Reporter) (made : Step) (r : Reply) → Reports (line_of h) s made r (kept_of (keeping old.kept) (concerned made)) (kept_of (keeping old.kept) (concerned made)) [] → Adds h s old old made r
adds_nothing h s old made r reports = adds_text h s old old made r [] reports refl (sym (append-nil old.text.items))

-- ---- an event

module _ (h : StepHead) (s : State) (id : ℕ) (old mid : Reporter) (same : mid.text.items ≡ old.text.items) (line : IsKept (keeping old.kept) id (with_line (keeping old.kept id) h.number) (keeping mid.kept)) where
  -- its line is kept, and nothing is written
  pub event_silent : (told : Told) → ((keeping old.kept id).offence ≡ None → IsNoOffence told) → (e : Event) (place : ℕ) → Adds h s old mid (step.Note id e) (reply.Noted id place told)
  event_silent told quiet e place = record {
    more = [];
    reported = record {
      now = with_line (keeping old.kept id) h.number;
      reports = replies.notes id id place e told (keeping old.kept id) quiet;
      keeps = line;
    };
    grows = same ∙ sym (append-nil old.text.items);
  }

  -- its line is kept, and its offence is reported
  pub event_offends : (new : Reporter) (at : ℕ) (role : List ℕ) (allowed : List Action) (found : ConversationOffence) → (keeping old.kept id).offence ≡ None
      → IsOffenceIn s id (keeping mid.kept id).lines at allowed found.protocol found.offence → AddsOffence h id mid new found
      → (e : Event) (place : ℕ) → Adds h s old new (step.Note id e) (reply.Noted id place (Judged (Offence at role allowed)))
  event_offends new at role allowed found none inside a e place =
      let k = keeping old.kept id in
      let now : keeping mid.kept id ≡ with_line k h.number = kept_itself (keeping old.kept) id (with_line k h.number) (keeping mid.kept) line in
      record {
        more = found_text (line_of h) (finding.Offence a.given);
        reported = record {
          now = record { lines = (with_line k h.number).lines; offence = Some found.offence };
          reports =
              replies.offends id id place at e role allowed found.protocol k found.offence a.given none
              (subst (λ (x : KeptConversation). IsOffenceIn s id x.lines at allowed found.protocol found.offence) now inside) a.finds;
          keeps =
              kept_twice (keeping old.kept) (keeping mid.kept) (keeping new.kept) id (with_line k h.number) (record { lines = (with_line k h.number).lines; offence = Some found.offence }) line
              (subst (λ (x : KeptConversation). IsKept (keeping mid.kept) id (record { lines = x.lines; offence = Some found.offence }) (keeping new.kept)) now a.keeps);
        };
        grows = a.grows ∙ ap (λ (t : List ℕ). t ++ found_text (line_of h) (finding.Offence a.given)) same;
      }

-- ---- a turn

module _ (h : StepHead) (s : State) (id : ℕ) (old : Reporter) where
  -- no offence was reported, and there is none
  pub turn_clean : (name : List (List ℕ)) (v : Verdict) (c : CleanVerdict) → IsClean v c → (keeping old.kept id).offence ≡ None → (i events : ℕ) → Adds h s old old (step.Turn id) (reply.Judged i name events (Judged v))
  turn_clean name v c clean none i events = adds_nothing h s old (step.Turn id) (reply.Judged i name events (Judged v)) (replies.stays_clean id i events name v c (keeping old.kept id) clean none)

  -- the end of an offence is reported
  pub turn_ends : (new : Reporter) (name : List (List ℕ)) (v : Verdict) (c : CleanVerdict) (was : ReportedOffence) (found : OffenceEnd) → IsClean v c → (keeping old.kept id).offence ≡ Some was → FindsEnd (line_of h) id name was c found
      → IsKept (keeping old.kept) id (record { lines = (keeping old.kept id).lines; offence = None }) (keeping new.kept) → new.text.items ≡ old.text.items ++ found_text (line_of h) (finding.OffenceEnd found)
      → (i events : ℕ) → Adds h s old new (step.Turn id) (reply.Judged i name events (Judged v))
  turn_ends new name v c was found clean there finds keeps grows i events = record {
    more = found_text (line_of h) (finding.OffenceEnd found);
    reported = record {
      now = record { lines = (keeping old.kept id).lines; offence = None };
      reports = replies.ends id i events name v c (keeping old.kept id) was found clean there finds;
      keeps = keeps;
    };
    grows = grows;
  }

  -- the offence that was reported is found again
  pub turn_stays : (at : ℕ) (role : List ℕ) (allowed : List Action) (found : ConversationOffence) (was : ReportedOffence) → IsOffenceIn s id (keeping old.kept id).lines at allowed found.protocol found.offence
      → (keeping old.kept id).offence ≡ Some was → IsSame was found.offence → (i events : ℕ) (name : List (List ℕ)) → Adds h s old old (step.Turn id) (reply.Judged i name events (Judged (Offence at role allowed)))
  turn_stays at role allowed found was inside there alike i events name =
      adds_nothing h s old (step.Turn id) (reply.Judged i name events (Judged (Offence at role allowed)))
      (replies.stays id i events at name found.protocol role allowed (keeping old.kept id) was found.offence inside there alike)

  -- another offence is reported
  pub turn_changes : (new : Reporter) (at : ℕ) (role : List ℕ) (allowed : List Action) (found : ConversationOffence) → IsOffenceIn s id (keeping old.kept id).lines at allowed found.protocol found.offence
      → ((was : ReportedOffence) → (keeping old.kept id).offence ≡ Some was → IsSame was found.offence → ⊥) → AddsOffence h id old new found
      → (i events : ℕ) (name : List (List ℕ)) → Adds h s old new (step.Turn id) (reply.Judged i name events (Judged (Offence at role allowed)))
  turn_changes new at role allowed found inside other a i events name = record {
    more = found_text (line_of h) (finding.Offence a.given);
    reported = record {
      now = record { lines = (keeping old.kept id).lines; offence = Some found.offence };
      reports = replies.changes id i events at name found.protocol role allowed (keeping old.kept id) found.offence a.given inside other a.finds;
      keeps = a.keeps;
    };
    grows = a.grows;
  }

-- ---- other steps

-- a step with such a reply that notes no event and makes no turn is a question
asks : (h : StepHead) (s w : State) (old new : Reporter) (made : Step) (i events : ℕ) (name : List (List ℕ)) (told : Told) → judged_by made ≡ None → IsAccepted w made (reply.Judged i name events told) s
    → new.kept ≡ old.kept → new.text.items ≡ old.text.items ++ reply_as_ever (line_of h) (reply.Judged i name events told) → Adds h s old new made (reply.Judged i name events told)
asks h s w old new (step.Put text) i events name told other a same grows = absurd a.replies
asks h s w old new (step.Withdraw m) i events name told other a same grows = absurd a.replies
asks h s w old new (step.Profile p) i events name told other a same grows = absurd a.replies
asks h s w old new (step.Open id m) i events name told other a same grows = absurd a.replies
asks h s w old new (step.Note id e) i events name told other a same grows = absurd a.replies
asks h s w old new (step.Turn id) i events name told other a same grows = absurd (cc)
asks h s w old new (step.Ask id) i events name told other a same grows =
    adds_text h s old new (step.Ask id) (reply.Judged i name events told) (reply_as_ever (line_of h) (reply.Judged i name events told)) (replies.answers id i events name told (keeping old.kept id)) same grows
asks h s w old new (step.Close id) i events name told other a same grows = absurd a.replies

no_note : (w s : State) (made : Step) (i place : ℕ) (told : Told) → judged_by made ≡ None → IsAccepted w made (reply.Noted i place told) s → ⊥
no_note w s (step.Put text) i place told other a = a.replies
no_note w s (step.Withdraw m) i place told other a = a.replies
no_note w s (step.Profile p) i place told other a = a.replies
no_note w s (step.Open id m) i place told other a = a.replies
no_note w s (step.Note id e) i place told other a = absurd (cc)
no_note w s (step.Turn id) i place told other a = a.replies
no_note w s (step.Ask id) i place told other a = a.replies
no_note w s (step.Close id) i place told other a = a.replies

-- the reply to a close is printed, and nothing of its conversation is kept
pub close_adds : (h : StepHead) (s : State) (old new : Reporter) (made : Step) (i events : ℕ) (name : List (List ℕ)) (v : Verdict) (complete : Bool)
    → replies.IsKeptOf (keeping old.kept) (concerned made) nothing_kept (keeping new.kept) → new.text.items ≡ old.text.items ++ reply_as_ever (line_of h) (reply.Closed i name events v complete)
    → Adds h s old new made (reply.Closed i name events v complete)
close_adds h s old new made i events name v complete keeps grows = record {
  more = reply_as_ever (line_of h) (reply.Closed i name events v complete);
  reported = record {
    now = nothing_kept;
    reports = replies.closes made i events name v complete (kept_of (keeping old.kept) (concerned made));
    keeps = keeps;
  };
  grows = grows;
}

-- the reply is to neither an opening nor a close, and accepts its step
abbrev pub IsPlainReply : Reply → Type 0
IsPlainReply (reply.Opened i name) = ⊥
IsPlainReply (reply.Closed i name events v complete) = ⊥
IsPlainReply (reply.Refused f) = ⊥
IsPlainReply _ = Unit {0}

-- such a reply is printed
pub plain_adds : (h : StepHead) (s w : State) (old new : Reporter) (made : Step) (r : Reply) → IsPlainReply r → judged_by made ≡ None → IsAnswered w made r s → new.kept ≡ old.kept
    → new.text.items ≡ old.text.items ++ reply_as_ever (line_of h) r → Adds h s old new made r
plain_adds h s w old new made (reply.Edited e changed) plain other a same grows =
    adds_text h s old new made (reply.Edited e changed) (reply_as_ever (line_of h) (reply.Edited e changed)) (replies.edits made e changed (kept_of (keeping old.kept) (concerned made))) same grows
plain_adds h s w old new made (reply.Profiled p) plain other a same grows =
    adds_text h s old new made (reply.Profiled p) (reply_as_ever (line_of h) (reply.Profiled p)) (replies.profiles made p (kept_of (keeping old.kept) (concerned made))) same grows
plain_adds h s w old new made (reply.Opened i name) plain other a same grows = absurd plain
plain_adds h s w old new made (reply.Noted i place told) plain other a same grows = absurd (no_note w s made i place told other a)
plain_adds h s w old new made (reply.Judged i name events told) plain other a same grows = asks h s w old new made i events name told other a same grows
plain_adds h s w old new made (reply.Closed i name events v complete) plain other a same grows = absurd plain
plain_adds h s w old new made (reply.Refused f) plain other a same grows = absurd plain

-- an accepted reply that is neither of these
pub plain_reply : (r : Reply) → ((i : ℕ) (n : List (List ℕ)) → r ≡ reply.Opened i n → ⊥) → ((i : ℕ) (n : List (List ℕ)) (k : ℕ) (v : Verdict) (b : Bool) → r ≡ reply.Closed i n k v b → ⊥) → is_accepted r ≡ true → IsPlainReply r
plain_reply (reply.Edited e cs) o c a = tt
plain_reply (reply.Profiled p) o c a = tt
plain_reply (reply.Opened i n) o c a = o i n refl
plain_reply (reply.Noted i place told) o c a = tt
plain_reply (reply.Judged i n k t) o c a = tt
plain_reply (reply.Closed i n k v b) o c a = c i n k v b refl
plain_reply (reply.Refused f) o c a = false≢true a

pub plain_change : (r : Reply) → IsPlainReply r → change.Unchanged ≡ change_by r
plain_change (reply.Edited e cs) p = refl
plain_change (reply.Profiled q) p = refl
plain_change (reply.Opened i n) p = absurd p
plain_change (reply.Noted i place told) p = refl
plain_change (reply.Judged i n k t) p = refl
plain_change (reply.Closed i n k v b) p = absurd p
plain_change (reply.Refused f) p = absurd p

-- ---- a refusal

pub refusal_adds : (h : StepHead) (s : State) (old new : Reporter) (made : Step) (f : Refusal) (id : Option ℕ) (found : RefusedStep) → concerned made ≡ id → found.line ≡ h.number → IsOfAny (line_of h) id found.conversation → found.refusal ≡ f
    → new.kept ≡ old.kept → new.text.items ≡ old.text.items ++ found_text (line_of h) (finding.Refusal found) → Adds h s old new made (reply.Refused f)
refusal_adds h s old new made f id found is line of refusal same grows =
    adds_text h s old new made (reply.Refused f) (found_text (line_of h) (finding.Refusal found))
    (replies.refuses made f (kept_of (keeping old.kept) (concerned made)) found
    (record { line_is = line; of_is = subst (λ (o : Option ℕ). IsOfAny (line_of h) o found.conversation) (sym is) of; refusal_is = refusal })) same grows

-- an offence was reported before
pub was_reported : {X : Type 0} (o : Option (Bor X)) (x : Option X) → is_some o ≡ true → option_copied o ≡ x → x ≡ None → ⊥
was_reported None x e copied none = false≢true e
was_reported (Some b) x e copied none = absurd (cc)

pub not_reported : {X : Type 0} (o : Option (Bor X)) (x : Option X) → is_some o ≡ false → option_copied o ≡ x → x ≡ None
not_reported None x e copied = sym copied
not_reported (Some b) x e copied = absurd (false≢true (sym e))
