-- Steps that a monitor makes, and the items that they are of.
use Rattle.std.proofs.Common.{◌≡◌, ◌≢◌, ◌∙◌, ◌&&◌, ℕ, Bool, true, false, not, cond, List, [], ◌∷◌, ◌++◌, Option, Some, None, Result, Ok, Err, refl, sym, ap, subst}
use Rattle.std.specs.Borrow.{Bor}
use Rattle.std.specs.Prelude.{IfOk, IfSome, Vec, is_ok}
use Rattle.std.specs.declared.alloc.Global.{Global}
use Rattle.std.specs.Str.{bytes_eq}
use Rattle.std.proofs.lemmas.Bool.{false≢true}
use Rattle.std.proofs.lemmas.List.{append-nil, append_assoc}
use Rattle.scrib_types.specs.declared.event.Event.{Event}
use Rattle.scrib_types.specs.declared.event.Told.{Told}
use Rattle.scrib_types.specs.declared.event.Told.TheVariants as tell
use Rattle.scrib_types.specs.declared.event.Verdict.{Verdict}
use Rattle.scrib_types.specs.declared.event.Verdict.TheVariants as verdict
use Rattle.scrib_core.specs.Answers.{State, IsAccepted, IsAnswered, IsCompleteIn, IsReportedIn}
use Rattle.scrib_core.specs.Permitted.{is_permitted_verdict}
use Rattle.scrib_core.specs.ReplyValues.{note_reply_of}
use Rattle.scrib_core.specs.declared.conversation_steps.Noted.{Noted}
use Rattle.scrib_core.specs.declared.format.Format.{Format}
use Rattle.scrib_core.specs.declared.format.Format.TheVariants as format
use Rattle.scrib_core.specs.declared.reply.Refusal.{Refusal}
use Rattle.scrib_core.specs.declared.reply.Reply.{Reply}
use Rattle.scrib_core.specs.declared.reply.Reply.TheVariants as reply
use Rattle.scrib_core.specs.declared.step.Step.{Step}
use Rattle.scrib_core.specs.declared.step.Step.TheVariants as step
use Rattle.scrib_report.specs.PutBack.{ReplyLabel, bytes_of, put_back_by}
use Rattle.scrib_report.specs.declared.label.Label.{Label}
use Rattle.scrib_report.specs.ReplyTexts.{reply_format}
use Rattle.scrib_script_reader.specs.declared.item.Item.{Item}
use Rattle.scrib_script_reader.specs.declared.item.Item.TheVariants as item
use Rattle.scrib_cli.specs.declared.gathered.Gathered.{Gathered}
use Rattle.scrib_summary.specs.declared.summary.Summary.{Summary}
use Rattle.scrib_summary.specs.Summaries.{with_replies, with_reply}
use Rattle.scrib_closing.specs.ClosingScripts.{Completes, is_accepted, is_send, judged_by}
use Rattle.scrib_closing.proofs.SendLemmas.{send_open}
use Rattle.scrib_labels.specs.declared.session_names.SessionNames.{SessionNames}
use Rattle.scrib_labels.specs.Naming.{number_of}
use Rattle.scrib_labels.specs.SessionNames.{is_session_name}
use Rattle.scrib_labelled.specs.declared.labelled_monitor.Change.{Change}
use Rattle.scrib_labelled.specs.declared.labelled_monitor.Change.TheVariants as change
use Rattle.scrib_labelled.specs.Changes.{IsChangeBy, after_change, change_by}
use Rattle.scrib_labelled.specs.ExchangeLines.{named_id}
use Rattle.scrib_labelled.specs.LabelledLines.{LineLabel}
use Rattle.scrib_labelled.specs.LabelledRuns.{Naming, after_replies, after_reply, put_back, session_name}
use Rattle.scrib_labelled.specs.declared.label_options.LabelledStyle.{LabelledStyle}
use Rattle.scrib_labelled.specs.NamedLines.{IsNumbersOf}
use Rattle.scrib_reported.specs.declared.counted_core.CountedCore.{CountedCore}
use Rattle.scrib_reported.specs.declared.kept.KeptConversations.{KeptConversations}
use Rattle.scrib_reported.specs.declared.outcome.Outcome.{Outcome}
use Rattle.scrib_reported.specs.declared.reporting_monitor.ReportingMonitor.{ReportingMonitor}
use Rattle.scrib_reported.specs.declared.step_head.StepHead.{StepHead}
use Rattle.scrib_reported.specs.CountedCores.{state_of}
use Rattle.scrib_reported.specs.Kept.{IsKept, Keeping, keeping, with_line}
use Rattle.scrib_reported.specs.Monitors.{Adds, CarriesItem, CarriesOut, GathersReply, MakesAll, MakesStep, counted_in, is_permitted_note, kept_in, label_with, line_of, state_in}
use Rattle.scrib_reported.specs.ReportedReplies.{IsReported, StepLine, notes}
use Rattle.scrib_reported.specs.ReportedRuns.{Carries, Makes, alone, with_close, step_line}

-- ---- what replies change

no-judged : (id : ℕ) → None ≡ Some id → ⊥
no-judged id e = absurd (cc)

-- a step that notes an event or makes a turn opens and closes nothing
judged-opens : (w u : State) (s : Step) (i : ℕ) (n : List (List ℕ)) (id : ℕ) → judged_by s ≡ Some id → IsAccepted w s (reply.Opened i n) u → ⊥
judged-opens w u (step.Put t) i n id e a = no-judged id e
judged-opens w u (step.Withdraw m) i n id e a = no-judged id e
judged-opens w u (step.Profile p) i n id e a = no-judged id e
judged-opens w u (step.Open j m) i n id e a = no-judged id e
judged-opens w u (step.Note j v) i n id e a = a.replies
judged-opens w u (step.Turn j) i n id e a = a.replies
judged-opens w u (step.Ask j) i n id e a = no-judged id e
judged-opens w u (step.Close j) i n id e a = no-judged id e

judged-closes : (w u : State) (s : Step) (i : ℕ) (n : List (List ℕ)) (k : ℕ) (v : Verdict) (b : Bool) (id : ℕ) → judged_by s ≡ Some id → IsAccepted w s (reply.Closed i n k v b) u → ⊥
judged-closes w u (step.Put t) i n k v b id e a = no-judged id e
judged-closes w u (step.Withdraw m) i n k v b id e a = no-judged id e
judged-closes w u (step.Profile p) i n k v b id e a = no-judged id e
judged-closes w u (step.Open j m) i n k v b id e a = no-judged id e
judged-closes w u (step.Note j x) i n k v b id e a = a.replies
judged-closes w u (step.Turn j) i n k v b id e a = a.replies
judged-closes w u (step.Ask j) i n k v b id e a = no-judged id e
judged-closes w u (step.Close j) i n k v b id e a = no-judged id e

pub judged_unchanged : (w u : State) (s : Step) (r : Reply) (id : ℕ) → judged_by s ≡ Some id → IsAnswered w s r u → change_by r ≡ change.Unchanged
judged_unchanged w u s (reply.Edited e cs) id judged a = refl
judged_unchanged w u s (reply.Profiled p) id judged a = refl
judged_unchanged w u s (reply.Opened i n) id judged a = absurd (judged-opens w u s i n id judged a)
judged_unchanged w u s (reply.Noted i place told) id judged a = refl
judged_unchanged w u s (reply.Judged i n events told) id judged a = refl
judged_unchanged w u s (reply.Closed i n events verdict complete) id judged a = absurd (judged-closes w u s i n events verdict complete id judged a)
judged_unchanged w u s (reply.Refused f) id judged a = refl

pub one-reply : (names : Naming) (session : Option (List ℕ × ℕ)) (r : Reply) (name : List ℕ) → after_reply names session r name ≡ after_change names session (change_by r) name
one-reply names None r name = refl
one-reply names (Some s) (reply.Edited e cs) name = refl
one-reply names (Some s) (reply.Profiled p) name = refl
one-reply names (Some s) (reply.Opened id n) name = refl
one-reply names (Some s) (reply.Noted id place told) name = refl
one-reply names (Some s) (reply.Judged id n events told) name = refl
one-reply names (Some s) (reply.Closed id n events verdict complete) name = refl
one-reply names (Some s) (reply.Refused f) name = refl

pub unchanged : (names : Naming) (session : Option (List ℕ × ℕ)) (name : List ℕ) → names name ≡ after_change names session change.Unchanged name
unchanged names None name = refl
unchanged names (Some s) name = refl

-- a change depends on the number that the name has
same-change : (names others : Naming) (session : Option (List ℕ × ℕ)) (c : Change) (name : List ℕ) → names name ≡ others name → after_change names session c name ≡ after_change others session c name
same-change names others None c name same = same
same-change names others (Some s) change.Opened name same = ap (λ (n : Option ℕ). cond (bytes_eq s.0 name) (Some s.1) n) same
same-change names others (Some s) change.Closed name same = ap (λ (n : Option ℕ). cond (bytes_eq s.0 name) None n) same
same-change names others (Some s) change.Unchanged name same = same

-- what the replies change in the numbers of names
pub replies-change : (names : Naming) (session : Option (List ℕ × ℕ)) (replies : List Reply) (c : Change) → IsChangeBy replies c → (name : List ℕ) → after_change names session c name ≡ after_replies names session replies name
replies-change names session [] c h name = ap (λ (x : Change). after_change names session x name) h ∙ sym (unchanged names session name)
replies-change names session (r ∷ []) c h name = ap (λ (x : Change). after_change names session x name) h ∙ sym (one-reply names session r name)
replies-change names session (r ∷ q ∷ rs) c h name =
    let first : names name ≡ after_reply names session r name =
    unchanged names session name ∙ ap (λ (x : Change). after_change names session x name) (sym h.1) ∙ sym (one-reply names session r name) in
    same-change names (after_reply names session r) session c name first
    ∙ ap (λ (x : Change). after_change (after_reply names session r) session x name) h.2 ∙ sym (one-reply (after_reply names session r) session q name)
    ∙ sym (ap (λ (x : List Reply). after_replies (after_reply (after_reply names session r) session q) session x name) h.0)

-- ---- steps

-- what an accepted note says is reported in the state behind it
pub note_reported : (w u : State) (id : ℕ) (e : Event) (outcome : Result Noted Refusal) → IsAnswered w (step.Note id e) (note_reply_of id outcome) u → IfOk outcome (λ n. IsReportedIn u id n.told)
note_reported w u id e (Ok n) a = a.replies.2
note_reported w u id e (Err f) a = tt

-- a note changes nothing in which conversations are open
pub note_change : (id : ℕ) (outcome : Result Noted Refusal) → change.Unchanged ≡ change_by (note_reply_of id outcome)
note_change id (Ok n) = refl
note_change id (Err f) = refl

module _ (h : StepHead) (old mid : ReportingMonitor) (made : Step) (o : Outcome) (m : MakesStep h old mid made o) (judged : Option ℕ) (is : judged ≡ judged_by made) where
  -- nothing is closed behind the step
  pub all_alone : (old.style.closes ≡ true → (id : ℕ) → judged ≡ Some id → o.accepted ≡ true → IsCompleteIn (state_in mid) id → ⊥) → MakesAll h old mid made o.change
  all_alone none = record {
    replies = m.reply ∷ [];
    more = m.adds.more;
    makes = alone (kept_in mid) (state_in mid) m.reply m.adds.more m.answered (λ on id done. none on id (is ∙ done.0) (m.accepted_is ∙ done.1) done.2) m.adds.reported;
    changes = m.change_is;
    counted = m.counted;
    grows = m.adds.grows;
  }

  -- the conversation that the step completed is closed behind it
  pub all_closed : (new : ReportingMonitor) (closing : Outcome) (id : ℕ) → old.style.closes ≡ true → judged ≡ Some id → o.accepted ≡ true → IsCompleteIn (state_in mid) id → MakesStep h mid new (step.Close id) closing
      → MakesAll h old new made closing.change
  all_closed new closing id on by taken complete c = record {
    replies = m.reply ∷ c.reply ∷ [];
    more = m.adds.more ++ c.adds.more;
    makes =
        with_close (kept_in mid) (kept_in new) (state_in mid) (state_in new) id m.reply c.reply m.adds.more c.adds.more m.answered on (sym is ∙ by, sym m.accepted_is ∙ taken, complete) m.adds.reported c.answered c.adds.reported;
    changes = (refl, judged_unchanged (state_in old) (state_in mid) made m.reply id (sym is ∙ by) m.answered, c.change_is);
    counted = c.counted ∙ ap (λ (s : Summary). with_reply c.reply s) m.counted;
    grows = c.adds.grows ∙ ap (λ (t : List ℕ). t ++ c.adds.more) m.adds.grows ∙ append_assoc old.reporter.text.items m.adds.more c.adds.more;
  }

-- ---- the note of a line's event

off-or-send : (closes sends : Bool) → (closes && not sends) ≡ false → closes ≡ true → sends ≡ true
off-or-send false sends e on = absurd (cc)
off-or-send true false e on = absurd (cc)
off-or-send true true e on = refl

-- nothing is closed behind it, where the test says so
note_stays : (closes : Bool) (id : ℕ) (e : Event) (outcome : Result Noted Refusal) (w u : State) → (closes && not (is_send e)) ≡ false → IsAnswered w (step.Note id e) (note_reply_of id outcome) u
    → closes ≡ true → (i : ℕ) → Completes (step.Note id e) (note_reply_of id outcome) u i → ⊥
note_stays closes id e outcome w u test answered on = send_open id e outcome w u (off-or-send closes (is_send e) test on) answered

-- the name of a conversation, without its number
name_back : (name : Option (Bor (List ℕ))) (id : ℕ) → session_name (named_id name id) ≡ bytes_of name
name_back None id = refl
name_back (Some n) id = refl

-- the line of a step is that of its label
pub head_line : (h : StepHead) (l : Label) (o : LabelledStyle) (label : LineLabel) (asked : Format) → put_back_by l ≡ put_back o label
    → line_of h ≡ record { number = label.line; label = put_back_by l; format = reply_format o.format asked } → line_of h ≡ step_line o label asked
head_line h l o label asked same is = is ∙ ap (λ (x : ReplyLabel). record { number = label.line; label = x; format = reply_format o.format asked }) same

-- the label of an exchange's line
abbrev pub label_in : (line : ℕ) (text : List ℕ) (tag name : Option (Bor (List ℕ))) (id : ℕ) → LineLabel
label_in line text tag name id = record { line = line; text = text; tag = bytes_of tag; session = named_id name id }

-- the line of an exchange's step is that of its label
pub exchange_line : (h : StepHead) (l : Label) (o : LabelledStyle) (line : ℕ) (text : List ℕ) (tag name : Option (Bor (List ℕ))) (id : ℕ) → put_back_by l ≡ label_with o line (bytes_of tag) (bytes_of name)
    → line_of h ≡ record { number = line; label = put_back_by l; format = reply_format o.format format.Line } → line_of h ≡ step_line o (label_in line text tag name id) format.Line
exchange_line h l o line text tag name id same is =
    head_line h l o (label_in line text tag name id) format.Line (same ∙ ap (λ (n : Option (List ℕ)). label_with o line (bytes_of tag) n) (sym (name_back name id))) is

module _ (old new : ReportingMonitor) (line : ℕ) (text : List ℕ) (tag name : Option (Bor (List ℕ))) (id : ℕ) (e : Event) (style : new.style ≡ old.style) where
  abbrev label : LineLabel
  label = label_in line text tag name id

  abbrev here : StepLine
  here = step_line old.style label format.Line

  -- with one reply
  pub carries_note : (outcome : Result Noted Refusal) (more : List ℕ) → IsAnswered (state_in old) (step.Note id e) (note_reply_of id outcome) (state_in new) → (old.style.closes && not (is_send e)) ≡ false
      → IsReported here (state_in new) (kept_in old) (kept_in new) (step.Note id e) (note_reply_of id outcome) more → new.names ≡ old.names → counted_in new ≡ with_reply (note_reply_of id outcome) (counted_in old)
      → new.gathered.bytes.items ≡ old.gathered.bytes.items ++ more → CarriesOut old new label (item.Step format.Line (step.Note id e))
  carries_note outcome more answered test reported names counted grows = record {
    style = style;
    replies = note_reply_of id outcome ∷ [];
    more = more;
    carries =
        alone (kept_in new) (state_in new) (note_reply_of id outcome) more answered (note_stays old.style.closes id e outcome (state_in old) (state_in new) test answered) reported;
    named = λ n.
        ap (λ (s : _). number_of s n) names ∙ unchanged (number_of old.names) (named_id name id) n ∙ ap (λ (x : Change). after_change (number_of old.names) (named_id name id) x n) (note_change id outcome)
        ∙ replies-change (number_of old.names) (named_id name id) (note_reply_of id outcome ∷ []) (change_by (note_reply_of id outcome)) refl n;
    counted = counted;
    grows = grows;
  }

  -- with all replies
  pub carries_all_of_note : (replies : List Reply) (more : List ℕ) (c : Change) → Makes old.style.closes here (kept_in old) (state_in old) (step.Note id e) (kept_in new) (state_in new) replies more → IsChangeBy replies c
      → ((n : List ℕ) → number_of new.names n ≡ after_change (number_of old.names) (named_id name id) c n) → counted_in new ≡ with_replies replies (counted_in old)
      → new.gathered.bytes.items ≡ old.gathered.bytes.items ++ more → CarriesOut old new label (item.Step format.Line (step.Note id e))
  carries_all_of_note replies more c makes changes names counted grows = record {
    style = style;
    replies = replies;
    more = more;
    carries = makes;
    named = λ n. names n ∙ replies-change (number_of old.names) (named_id name id) replies c changes n;
    counted = counted;
    grows = grows;
  }

-- ---- the kinds of steps and of replies

pub note_accepted : (id : ℕ) (outcome : Result Noted Refusal) → is_ok outcome ≡ is_accepted (note_reply_of id outcome)
note_accepted id (Ok n) = refl
note_accepted id (Err f) = refl

-- a turn is answered with a verdict, or refused
pub turn_replies : (w u : State) (id : ℕ) (r : Reply) → IsAnswered w (step.Turn id) r u → ((i : ℕ) (n : List (List ℕ)) (k : ℕ) (t : Told) → r ≡ reply.Judged i n k t → ⊥) → ((f : Refusal) → r ≡ reply.Refused f → ⊥) → ⊥
turn_replies w u id (reply.Edited e cs) a j f = a.replies
turn_replies w u id (reply.Profiled p) a j f = a.replies
turn_replies w u id (reply.Opened i n) a j f = a.replies
turn_replies w u id (reply.Noted i place told) a j f = a.replies
turn_replies w u id (reply.Judged i n k t) a j f = j i n k t refl
turn_replies w u id (reply.Closed i n k v b) a j f = a.replies
turn_replies w u id (reply.Refused x) a j f = f x refl

pub other_step : (s : Step) → ((id : ℕ) (e : Event) → s ≡ step.Note id e → ⊥) → ((id : ℕ) → s ≡ step.Turn id → ⊥) → judged_by s ≡ None
other_step (step.Put t) n j = refl
other_step (step.Withdraw m) n j = refl
other_step (step.Profile p) n j = refl
other_step (step.Open i m) n j = refl
other_step (step.Note i e) n j = absurd (n i e refl)
other_step (step.Turn i) n j = absurd (j i refl)
other_step (step.Ask i) n j = refl
other_step (step.Close i) n j = refl

pub not_refused : (r : Reply) → ((f : Refusal) → r ≡ reply.Refused f → ⊥) → is_accepted r ≡ true
not_refused (reply.Edited e cs) f = refl
not_refused (reply.Profiled p) f = refl
not_refused (reply.Opened i n) f = refl
not_refused (reply.Noted i place told) f = refl
not_refused (reply.Judged i n k t) f = refl
not_refused (reply.Closed i n k v b) f = refl
not_refused (reply.Refused x) f = absurd (f x refl)

-- the reply to a close opens nothing
close-opens : (u v : State) (id : ℕ) (q : Reply) → IsAnswered u (step.Close id) q v → change_by q ≡ change.Opened → ⊥
close-opens u v id (reply.Edited e cs) a wrong = absurd (cc)
close-opens u v id (reply.Profiled p) a wrong = absurd (cc)
close-opens u v id (reply.Opened i n) a wrong = a.replies
close-opens u v id (reply.Noted i place told) a wrong = absurd (cc)
close-opens u v id (reply.Judged i n events told) a wrong = absurd (cc)
close-opens u v id (reply.Closed i n events verdict complete) a wrong = absurd (cc)
close-opens u v id (reply.Refused f) a wrong = absurd (cc)

-- the note of an event opens nothing, nor does the close behind it
pub note_opens : (closes : Bool) (l : StepLine) (old new : Keeping) (w v : State) (id : ℕ) (e : Event) (replies : List Reply) (more : List ℕ) (c : Change) → Makes closes l old w (step.Note id e) new v replies more → IsChangeBy replies c → c ≢ change.Opened
note_opens closes l old new w v id e replies more c (alone n u r text answered stays reported) by wrong =
    let same = judged_unchanged w u (step.Note id e) r id refl answered in
    absurd (cc)
note_opens closes l old new w v id e replies more c (with_close mid n u t i r q text later answered on done reported closed again) by wrong = close-opens u t i q closed (sym by.2 ∙ wrong)

-- ---- items

-- no reply changes nothing
pub renames_nothing : (names : Naming) (session : Option (List ℕ × ℕ)) (name : List ℕ) → after_change names session change.Unchanged name ≡ names name
renames_nothing names session name = sym (unchanged names session name)

-- the item of a step
pub item_step : (old new : ReportingMonitor) (t : Vec ℕ Global) (label : LineLabel) (h : StepHead) (asked : Format) (made : Step) (c : Change) → line_of h ≡ step_line old.style label asked → t.items ≡ []
    → MakesAll h (record old { reporter = record old.reporter { text = t } }) new made c → CarriesItem old new label (item.Step asked made) c
item_step old new t label h asked made c line empty m = record {
  replies = m.replies;
  carries =
      subst (λ (x : List ℕ). Makes old.style.closes (step_line old.style label asked) (kept_in old) (state_in old) made (kept_in new) (state_in new) m.replies x) (sym (m.grows ∙ ap (λ (x : List ℕ). x ++ m.more) empty))
      (subst (λ (l : StepLine). Makes old.style.closes l (kept_in old) (state_in old) made (kept_in new) (state_in new) m.replies m.more) line m.makes);
  renames = λ names session name. replies-change names session m.replies c m.changes name;
  counted = m.counted;
}

-- an item that was carried out, with its names and its text
pub carries_item : (old taken renamed : ReportingMonitor) (g : Gathered) (label : LineLabel) (i : Item) (c : Change) → CarriesItem old taken label i c → taken ≡ record old { core = taken.core; reporter = taken.reporter }
    → renamed ≡ record taken { names = renamed.names } → ((n : List ℕ) → number_of renamed.names n ≡ after_change (number_of taken.names) label.session c n) → g.bytes.items ≡ renamed.gathered.bytes.items ++ renamed.reporter.text.items
    → CarriesOut old (record renamed { gathered = g }) label i
carries_item old taken renamed g label i c t took same names grows = record {
  style = ap (λ (m : ReportingMonitor). m.style) same ∙ ap (λ (m : ReportingMonitor). m.style) took;
  replies = t.replies;
  more = taken.reporter.text.items;
  carries = subst (λ (m : ReportingMonitor). Carries old.style (number_of old.names) label (kept_in old) (state_in old) i (kept_in m) (state_in m) t.replies taken.reporter.text.items) (sym same) t.carries;
  named = λ n.
      names n ∙ ap (λ (m : ReportingMonitor). after_change (number_of m.names) label.session c n) took ∙ t.renames (number_of old.names) label.session n;
  counted = ap (λ (m : ReportingMonitor). counted_in m) same ∙ t.counted;
  grows =
      grows ∙ ap (λ (m : ReportingMonitor). m.gathered.bytes.items ++ m.reporter.text.items) same
      ∙ ap (λ (m : ReportingMonitor). m.gathered.bytes.items ++ taken.reporter.text.items) took;
}

-- a permitted event is not reported
pub permitted_silent : (l : StepLine) (s : State) (old new : Keeping) (id place : ℕ) (e : Event) (outcome : Result Noted Refusal) → outcome ≡ Ok (record { place = place; told = tell.Judged verdict.Permitted })
    → IsKept old id (with_line (old id) l.number) new → IsReported l s old new (step.Note id e) (note_reply_of id outcome) []
permitted_silent l s old new id place e outcome is kept =
    subst (λ (o : Result Noted Refusal). IsReported l s old new (step.Note id e) (note_reply_of id o) []) (sym is)
    (record { now = with_line (old id) l.number; reports = notes id id place e (tell.Judged verdict.Permitted) (old id) (λ none. tt); keeps = kept })

-- a report whose text was gathered
pub gathers_reply : (h : StepHead) (old : ReportingMonitor) (new : ReportingMonitor) (t : Vec ℕ Global) (made : Step) (r : Reply) → t.items ≡ [] → Adds h (state_in old) (record old.reporter { text = t }) new.reporter made r
    → new.gathered.bytes.items ≡ old.gathered.bytes.items ++ new.reporter.text.items → GathersReply h old new made r
gathers_reply h old new t made r empty a grows = record {
  more = a.more;
  reported = a.reported;
  grows = grows ∙ ap (λ (x : List ℕ). old.gathered.bytes.items ++ x) (a.grows ∙ ap (λ (x : List ℕ). x ++ a.more) empty);
}

-- ---- the paths of an exchange

told_permitted : (t : Told) → is_permitted_verdict t ≡ true → t ≡ tell.Judged verdict.Permitted
told_permitted tell.Stale e = absurd (false≢true e)
told_permitted (tell.Judged verdict.Permitted) e = refl
told_permitted (tell.Judged (verdict.Offence p r x)) e = absurd (false≢true e)
told_permitted (tell.Judged verdict.Withdrawn) e = absurd (false≢true e)

pub permitted_note : (outcome : Result Noted Refusal) → is_permitted_note outcome ≡ true → (place : ℕ) × (outcome ≡ Ok (record { place = place; told = tell.Judged verdict.Permitted }))
permitted_note (Ok n) e = (n.place, ap (λ (t : Told). Ok (record { place = n.place; told = t })) (told_permitted n.told e))
permitted_note (Err f) e = absurd (false≢true e)

module _ (old : ReportingMonitor) (k : CountedCore) (line : ℕ) (text : List ℕ) (tag name : Option (Bor (List ℕ))) (id : ℕ) (e : Event) (outcome : Result Noted Refusal) (answered : IsAnswered (state_in old) (step.Note id e) (note_reply_of id outcome) (state_of k))
    (counted : k.summary ≡ with_reply (note_reply_of id outcome) (counted_in old))
    (test : (old.style.closes && not (is_send e)) ≡ false) where
  -- a permitted event, of which the line alone is kept
  pub permitted_carried : (kept : KeptConversations) (place : ℕ) → outcome ≡ Ok (record { place = place; told = tell.Judged verdict.Permitted }) → IsKept (kept_in old) id (with_line (kept_in old id) line) (keeping kept)
      → CarriesOut old (record old { core = k; reporter = record old.reporter { kept = kept } }) (label_in line text tag name id) (item.Step format.Line (step.Note id e))
  permitted_carried kept place is added =
      let new : ReportingMonitor = record old { core = k; reporter = record old.reporter { kept = kept } } in
      carries_note old new line text tag name id e refl outcome [] answered test
      (permitted_silent (step_line old.style (label_in line text tag name id) format.Line) (state_of k) (kept_in old) (keeping kept) id place e outcome is added) refl counted
      (sym (append-nil old.gathered.bytes.items))

  -- any other event
  pub noted_carried : (new : ReportingMonitor) (h : StepHead) → line_of h ≡ step_line old.style (label_in line text tag name id) format.Line → GathersReply h (record old { core = k }) new (step.Note id e) (note_reply_of id outcome)
      → new ≡ record old { core = k; reporter = new.reporter; gathered = new.gathered }
      → CarriesOut old new (label_in line text tag name id) (item.Step format.Line (step.Note id e))
  noted_carried new h is g same =
      let state : state_of k ≡ state_in new = sym (ap (λ (m : ReportingMonitor). state_in m) same) in
      carries_note old new line text tag name id e (ap (λ (m : ReportingMonitor). m.style) same) outcome g.more
      (subst (λ (s : State). IsAnswered (state_in old) (step.Note id e) (note_reply_of id outcome) s) state answered) test
      (subst (λ (s : State). IsReported (step_line old.style (label_in line text tag name id) format.Line) s (kept_in old) (kept_in new) (step.Note id e) (note_reply_of id outcome) g.more) state
      (subst (λ (l : StepLine). IsReported l (state_of k) (kept_in old) (kept_in new) (step.Note id e) (note_reply_of id outcome) g.more) is g.reported))
      (ap (λ (m : ReportingMonitor). m.names) same) (ap (λ (m : ReportingMonitor). counted_in m) same ∙ counted) g.grows

-- an event behind which its conversation may be closed
pub closed_carried : (old made renamed : ReportingMonitor) (t : Vec ℕ Global) (g : Gathered) (h : StepHead) (line : ℕ) (text : List ℕ) (tag name : Option (Bor (List ℕ))) (id : ℕ) (e : Event) (c : Change)
    → line_of h ≡ step_line old.style (label_in line text tag name id) format.Line → t.items ≡ [] → MakesAll h (record old { reporter = record old.reporter { text = t } }) made (step.Note id e) c
    → made ≡ record old { core = made.core; reporter = made.reporter } → renamed ≡ record made { names = renamed.names }
    → (c ≢ change.Opened → (n : List ℕ) → number_of renamed.names n ≡ after_change (number_of made.names) (named_id name id) c n)
    → g.bytes.items ≡ renamed.gathered.bytes.items ++ renamed.reporter.text.items
    → CarriesOut old (record renamed { gathered = g }) (label_in line text tag name id) (item.Step format.Line (step.Note id e))
closed_carried old made renamed t g h line text tag name id e c is empty m done same names grows =
    let here = step_line old.style (label_in line text tag name id) format.Line in
    let opens = note_opens old.style.closes (line_of h) (kept_in old) (kept_in made) (state_in old) (state_in made) id e m.replies m.more c m.makes m.changes in
    carries_all_of_note old (record renamed { gathered = g }) line text tag name id e (ap (λ (x : ReportingMonitor). x.style) same ∙ ap (λ (x : ReportingMonitor). x.style) done) m.replies m.more c
    (subst (λ (x : ReportingMonitor). Makes old.style.closes here (kept_in old) (state_in old) (step.Note id e) (kept_in x) (state_in x) m.replies m.more) (sym same)
    (subst (λ (l : StepLine). Makes old.style.closes l (kept_in old) (state_in old) (step.Note id e) (kept_in made) (state_in made) m.replies m.more) is m.makes))
    m.changes (λ n. names opens n ∙ ap (λ (x : ReportingMonitor). after_change (number_of x.names) (named_id name id) c n) done)
    (ap (λ (x : ReportingMonitor). counted_in x) same ∙ m.counted)
    (grows ∙ ap (λ (x : ReportingMonitor). x.gathered.bytes.items ++ x.reporter.text.items) same ∙ ap (λ (x : ReportingMonitor). x.gathered.bytes.items ++ made.reporter.text.items) done
    ∙ ap (λ (x : List ℕ). old.gathered.bytes.items ++ x) (m.grows ∙ ap (λ (x : List ℕ). x ++ m.more) empty))

-- the name of an exchange is one of a conversation
pub named_of : (names : SessionNames) (name : Option (Bor (List ℕ))) (id : ℕ) → IsNumbersOf names (named_id name id) → IfSome name (λ n. is_session_name n.now ≡ true)
named_of names None id h = tt
named_of names (Some n) id h = h.1
