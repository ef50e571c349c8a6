-- What items change, and what is gathered for them.
use Rattle.std.proofs.Common.{◌≡◌, ◌≢◌, ◌∙◌, ◌&&◌, inl, inr, ℕ, Bool, true, false, not, cond, List, [], ◌∷◌, ◌++◌, Option, Some, None, Result, Ok, Err, refl, sym, ap, subst}
use Rattle.std.specs.Borrow.{Bor}
use Rattle.std.specs.Str.{bytes_eq}
use Rattle.std.proofs.lemmas.List.{append-nil}
use Rattle.scrib_types.specs.declared.event.Event.{Event}
use Rattle.scrib_types.specs.declared.event.Verdict.{Verdict}
use Rattle.scrib_core.specs.Answers.{State, IsAccepted, IsAnswered}
use Rattle.scrib_labelled.specs.CheckedCores.{GotMemory, state_of}
use Rattle.scrib_core.specs.ReplyValues.{note_reply_of}
use Rattle.scrib_core.specs.declared.conversation_steps.Noted.{Noted}
use Rattle.scrib_core.specs.declared.format.Format.{Format}
use Rattle.scrib_core.specs.declared.format.Format.TheVariants as format
use Rattle.scrib_core.specs.declared.reply.Refusal.{Refusal}
use Rattle.scrib_core.specs.declared.reply.Reply.{Reply}
use Rattle.scrib_core.specs.declared.reply.Reply.TheVariants as reply
use Rattle.scrib_core.specs.declared.step.Step.{Step}
use Rattle.scrib_core.specs.declared.step.Step.TheVariants as step
use Rattle.scrib_report.specs.LabelledReplies.{labelled_reply}
use Rattle.scrib_report.specs.PutBack.{ReplyLabel, bytes_of, labelled_line}
use Rattle.scrib_report.specs.ReplyTexts.{reply_format, reply_text}
use Rattle.scrib_script_reader.specs.declared.item.Item.{Item}
use Rattle.scrib_script_reader.specs.declared.item.Item.TheVariants as item
use Rattle.scrib_cli.specs.declared.gathered.Gathered.{Gathered}
use Rattle.scrib_closing.specs.ClosingScripts.{Completes, is_send, judged_by}
use Rattle.scrib_closing.proofs.SendLemmas.{send_open}
use Rattle.scrib_labels.specs.Naming.{number_of}
use Rattle.scrib_labelled.specs.declared.label_options.LabelledStyle.{LabelledStyle}
use Rattle.scrib_labelled.specs.declared.labelled_monitor.Change.{Change}
use Rattle.scrib_labelled.specs.declared.labelled_monitor.Change.TheVariants as change
use Rattle.scrib_labelled.specs.declared.labelled_monitor.LabelledMonitor.{LabelledMonitor}
use Rattle.scrib_labelled.specs.declared.named_monitor.NamedMonitor.{NamedMonitor}
use Rattle.scrib_labelled.specs.ExchangeLines.{named_id}
use Rattle.scrib_labelled.specs.LabelledLines.{LineLabel}
use Rattle.scrib_labelled.specs.LabelledRuns.{ClosesBehind, Naming, Takes, after_replies, after_reply, labelled_replies, of_step, put_back, session_name}
use Rattle.scrib_labelled.specs.Behind.{CarriesOut}
use Rattle.scrib_labelled.specs.Changes.{IsChangeBy, NotesEvent, TakesItem, after_change, change_by}

-- ---- what replies change

-- the reply to a note opens and closes no conversation
note-changes-nothing : (id : ℕ) (r : Result Noted Refusal) → change_by (note_reply_of id r) ≡ change.Unchanged
note-changes-nothing id (Ok n) = refl
note-changes-nothing id (Err f) = refl

no-judged : (id : ℕ) → None ≡ Some id → ⊥
no-judged id e = absurd (cc)

-- nor does the reply to any step that notes an event or makes a turn
judged-opens : (w u : State) (s : Step) (i : ℕ) (n : List (List ℕ)) (id : ℕ) → judged_by s ≡ Some id → IsAccepted w s (reply.Opened i n) u → ⊥
judged-opens w u (step.Put t) i n id e a = no-judged id e
judged-opens w u (step.Withdraw m) i n id e a = no-judged id e
judged-opens w u (step.Profile p) i n id e a = no-judged id e
judged-opens w u (step.Open j m) i n id e a = no-judged id e
judged-opens w u (step.Note j v) i n id e a = a.replies
judged-opens w u (step.Turn j) i n id e a = a.replies
judged-opens w u (step.Ask j) i n id e a = no-judged id e
judged-opens w u (step.Close j) i n id e a = no-judged id e

judged-closes : (w u : State) (s : Step) (i : ℕ) (n : List (List ℕ)) (k : ℕ) (v : Verdict) (b : Bool) (id : ℕ) → judged_by s ≡ Some id → IsAccepted w s (reply.Closed i n k v b) u → ⊥
judged-closes w u (step.Put t) i n k v b id e a = no-judged id e
judged-closes w u (step.Withdraw m) i n k v b id e a = no-judged id e
judged-closes w u (step.Profile p) i n k v b id e a = no-judged id e
judged-closes w u (step.Open j m) i n k v b id e a = no-judged id e
judged-closes w u (step.Note j x) i n k v b id e a = a.replies
judged-closes w u (step.Turn j) i n k v b id e a = a.replies
judged-closes w u (step.Ask j) i n k v b id e a = no-judged id e
judged-closes w u (step.Close j) i n k v b id e a = no-judged id e

-- so such a step changes nothing
pub judged_unchanged : (w u : State) (s : Step) (r : Reply) (id : ℕ) → judged_by s ≡ Some id → IsAnswered w s r u → change_by r ≡ change.Unchanged
judged_unchanged w u s (reply.Edited e cs) id judged a = refl
judged_unchanged w u s (reply.Profiled p) id judged a = refl
judged_unchanged w u s (reply.Opened i n) id judged a = absurd (judged-opens w u s i n id judged a)
judged_unchanged w u s (reply.Noted i place told) id judged a = refl
judged_unchanged w u s (reply.Judged i n events told) id judged a = refl
judged_unchanged w u s (reply.Closed i n events verdict complete) id judged a = absurd (judged-closes w u s i n events verdict complete id judged a)
judged_unchanged w u s (reply.Refused f) id judged a = refl

-- the reply to a close opens nothing
close-opens : (u v : State) (id : ℕ) (q : Reply) → IsAnswered u (step.Close id) q v → change_by q ≡ change.Opened → ⊥
close-opens u v id (reply.Edited e cs) a wrong = absurd (cc)
close-opens u v id (reply.Profiled p) a wrong = absurd (cc)
close-opens u v id (reply.Opened i n) a wrong = a.replies
close-opens u v id (reply.Noted i place told) a wrong = absurd (cc)
close-opens u v id (reply.Judged i n events told) a wrong = absurd (cc)
close-opens u v id (reply.Closed i n events verdict complete) a wrong = absurd (cc)
close-opens u v id (reply.Refused f) a wrong = absurd (cc)

note-alone : (w u : State) (id : ℕ) (e : Event) (r : Reply) (c : Change) → IsAnswered w (step.Note id e) r u → (later : List Reply) → later ≡ [] → IsChangeBy (r ∷ later) c → c ≡ change.Opened → ⊥
note-alone w u id e r c answered [] nil by wrong =
    let same = judged_unchanged w u (step.Note id e) r id refl answered in
    absurd (cc)
note-alone w u id e r c answered (q ∷ later) nil by wrong = absurd (cc)

note-closed : (u v : State) (k : ℕ) (r q : Reply) (c : Change) → IsAnswered u (step.Close k) q v → (later : List Reply) → later ≡ q ∷ [] → IsChangeBy (r ∷ later) c → c ≡ change.Opened → ⊥
note-closed u v k r q c closed [] is by wrong = absurd (cc)
note-closed u v k r q c closed (x ∷ []) is by wrong = close-opens u v k q closed (cc)
note-closed u v k r q c closed (x ∷ y ∷ later) is by wrong = absurd (cc)

-- a note opens nothing, nor does what is done behind it
pub note_opens : (closes : Bool) (w u v : State) (id : ℕ) (e : Event) (r : Reply) (c : Change) (later : List Reply) → IsAnswered w (step.Note id e) r u → ClosesBehind closes (step.Note id e) r u v later
    → IsChangeBy (r ∷ later) c → c ≢ change.Opened
note_opens false w u v id e r c later answered behind by wrong = note-alone w u id e r c answered later behind.0 by wrong
note_opens true w u v id e r c later answered (inl behind) by wrong = note-alone w u id e r c answered later behind.1 by wrong
note_opens true w u v id e r c later answered (inr behind) by wrong = note-closed u v behind.0 r behind.1 c behind.3 later behind.4 by wrong

one-reply : (names : Naming) (session : Option (List ℕ × ℕ)) (r : Reply) (name : List ℕ) → after_reply names session r name ≡ after_change names session (change_by r) name
one-reply names None r name = refl
one-reply names (Some s) (reply.Edited e cs) name = refl
one-reply names (Some s) (reply.Profiled p) name = refl
one-reply names (Some s) (reply.Opened id n) name = refl
one-reply names (Some s) (reply.Noted id place told) name = refl
one-reply names (Some s) (reply.Judged id n events told) name = refl
one-reply names (Some s) (reply.Closed id n events verdict complete) name = refl
one-reply names (Some s) (reply.Refused f) name = refl

pub unchanged : (names : Naming) (session : Option (List ℕ × ℕ)) (name : List ℕ) → names name ≡ after_change names session change.Unchanged name
unchanged names None name = refl
unchanged names (Some s) name = refl

-- a change depends on the number that the name has
same-change : (names others : Naming) (session : Option (List ℕ × ℕ)) (c : Change) (name : List ℕ) → names name ≡ others name → after_change names session c name ≡ after_change others session c name
same-change names others None c name same = same
same-change names others (Some s) change.Opened name same = ap (λ (n : Option ℕ). cond (bytes_eq s.0 name) (Some s.1) n) same
same-change names others (Some s) change.Closed name same = ap (λ (n : Option ℕ). cond (bytes_eq s.0 name) None n) same
same-change names others (Some s) change.Unchanged name same = same

-- what the replies change in the numbers of names
replies-change : (names : Naming) (session : Option (List ℕ × ℕ)) (replies : List Reply) (c : Change) → IsChangeBy replies c → (name : List ℕ) → after_change names session c name ≡ after_replies names session replies name
replies-change names session [] c h name = ap (λ (x : Change). after_change names session x name) h ∙ sym (unchanged names session name)
replies-change names session (r ∷ []) c h name = ap (λ (x : Change). after_change names session x name) h ∙ sym (one-reply names session r name)
replies-change names session (r ∷ q ∷ rs) c h name =
    let first : names name ≡ after_reply names session r name =
    unchanged names session name ∙ ap (λ (x : Change). after_change names session x name) (sym h.1) ∙ sym (one-reply names session r name) in
    same-change names (after_reply names session r) session c name first
    ∙ ap (λ (x : Change). after_change (after_reply names session r) session x name) h.2 ∙ sym (one-reply (after_reply names session r) session q name)
    ∙ sym (ap (λ (x : List Reply). after_replies (after_reply (after_reply names session r) session q) session x name) h.0)

-- ---- what is done behind a step

-- nothing, where it completes no conversation that is to be closed
pub behind_none : (closes : Bool) (s : Step) (r : Reply) (u : State) → (closes ≡ true → (id : ℕ) → Completes s r u id → ⊥) → ClosesBehind closes s r u u []
behind_none false s r u none = (refl, refl)
behind_none true s r u none = inl (none refl, refl, refl)

-- the close of the conversation that it completes
pub behind_closed : (closes : Bool) (s : Step) (r c : Reply) (u v : State) (id : ℕ) → closes ≡ true → Completes s r u id → IsAnswered u (step.Close id) c v → ClosesBehind closes s r u v (c ∷ [])
behind_closed false s r c u v id on done closed = absurd (cc)
behind_closed true s r c u v id on done closed = inr (id, c, done, closed, refl)

module _ (o : LabelledStyle) (l : ReplyLabel) (f asked : Format) (is : f ≡ reply_format o.format asked) (s : Step) (r : Reply) (w u : State) (answered : IsAnswered w s r u) where
  -- the step, with nothing behind it
  pub takes_open : ClosesBehind o.closes s r u u [] → Takes o l w (item.Step asked s) u (r ∷ []) (labelled_reply f (of_step l s) r)
  takes_open behind = (
    r,
    u,
    [],
    answered,
    behind,
    refl,
    ap (λ (g : Format). labelled_reply g (of_step l s) r) is ∙ sym (append-nil (labelled_reply (reply_format o.format asked) (of_step l s) r)),
  )

  -- the step, with a close behind it
  pub takes_closed : (v : State) (c : Reply) → ClosesBehind o.closes s r u v (c ∷ [])
      → Takes o l w (item.Step asked s) v (r ∷ c ∷ []) (labelled_reply f (of_step l s) r ++ labelled_reply f (of_step l s) c)
  takes_closed v c behind = (
    r,
    u,
    c ∷ [],
    answered,
    behind,
    refl,
    ap (λ (g : Format). labelled_reply g (of_step l s) r ++ labelled_reply g (of_step l s) c) is
        ∙ ap (λ (t : List ℕ). labelled_reply (reply_format o.format asked) (of_step l s) r ++ t) (sym (append-nil (labelled_reply (reply_format o.format asked) (of_step l s) c))),
  )

-- ---- the note of an event

-- the test of a note, where it says that nothing is to be closed
off-or-send : (closes sends : Bool) → (closes && not sends) ≡ false → closes ≡ true → sends ≡ true
off-or-send false sends e on = absurd (cc)
off-or-send true false e on = absurd (cc)
off-or-send true true e on = refl

pub note_stays : (closes : Bool) (id : ℕ) (e : Event) (outcome : Result Noted Refusal) (w u : State) → (closes && not (is_send e)) ≡ false → IsAnswered w (step.Note id e) (note_reply_of id outcome) u
    → ClosesBehind closes (step.Note id e) (note_reply_of id outcome) u u []
note_stays closes id e outcome w u test answered =
    behind_none closes (step.Note id e) (note_reply_of id outcome) u (λ on. send_open id e outcome w u (off-or-send closes (is_send e) test on) answered)

pub closes_on : (closes sends : Bool) → (closes && not sends) ≡ true → closes ≡ true
closes_on false sends e = absurd (cc)
closes_on true sends e = refl

pub closes_not_off : {A : Type 0} (closes : Bool) → closes ≡ true → closes ≡ false → A
closes_not_off closes on off = absurd (cc)

module _ (old new : LabelledMonitor) (l : ReplyLabel) (id : ℕ) (e : Event) (outcome : Result Noted Refusal) (u : State) (lines : old.style.format ≡ format.Line) (same : new.style ≡ old.style)
    (answered : IsAnswered (state_of old.core) (step.Note id e) (note_reply_of id outcome) u) where
  abbrev text : Reply → List ℕ
  text r = labelled_reply format.Line l r

  printed : format.Line ≡ reply_format old.style.format format.Line
  printed = ap (λ (f : Format). reply_format f format.Line) (sym lines)

  -- the note, with nothing behind it
  pub notes_open : u ≡ state_of new.core → ClosesBehind old.style.closes (step.Note id e) (note_reply_of id outcome) u u []
      → (old.style.closes ≡ false → GotMemory old.core new.core (note_reply_of id outcome ∷ []))
      → new.gathered.bytes.items ≡ old.gathered.bytes.items ++ labelled_reply format.Line l (note_reply_of id outcome) → NotesEvent old new l id e change.Unchanged
  notes_open after behind memory grows = record {
    text = text (note_reply_of id outcome);
    takes = record {
      style = same;
      replies = note_reply_of id outcome ∷ [];
      takes =
          subst (λ (v : State). Takes old.style l (state_of old.core) (item.Step format.Line (step.Note id e)) v (note_reply_of id outcome ∷ []) (text (note_reply_of id outcome))) after
          (takes_open old.style l format.Line format.Line printed (step.Note id e) (note_reply_of id outcome) (state_of old.core) u answered behind);
      changes = sym (note-changes-nothing id outcome);
      memory = memory;
    };
    opens = λ wrong. absurd (cc);
    grows = grows;
  }

  -- the note, with a close behind it
  pub notes_closed : (r : Reply) (c : Change) → old.style.closes ≡ true → Completes (step.Note id e) (note_reply_of id outcome) u id → IsAnswered u (step.Close id) r (state_of new.core) → c ≡ change_by r → c ≢ change.Opened
      → new.gathered.bytes.items ≡ old.gathered.bytes.items ++ (labelled_reply format.Line l (note_reply_of id outcome) ++ labelled_reply format.Line l r) → NotesEvent old new l id e c
  notes_closed r c on done closed is opens grows = record {
    text = text (note_reply_of id outcome) ++ text r;
    takes = record {
      style = same;
      replies = note_reply_of id outcome ∷ r ∷ [];
      takes =
          takes_closed old.style l format.Line format.Line printed (step.Note id e) (note_reply_of id outcome) (state_of old.core) u answered (state_of new.core) r
          (behind_closed old.style.closes (step.Note id e) (note_reply_of id outcome) r u (state_of new.core) id on done closed);
      changes = (refl, note-changes-nothing id outcome, is);
      memory = λ off. closes_not_off old.style.closes on off;
    };
    opens = opens;
    grows = grows;
  }

-- the name of a conversation, without its number
pub name_back : (name : Option (Bor (List ℕ))) (id : ℕ) → session_name (named_id name id) ≡ bytes_of name
name_back None id = refl
name_back (Some n) id = refl

abbrev pub label_with : (tag name : Option (List ℕ)) (line : Option ℕ) → ReplyLabel
label_with tag name line = record { tag = tag; name = name; line = line; conversation = None }

-- what is put back for a line: its tag, its name, and its number where the style has lines
pub put_back_is : (o : LabelledStyle) (label : LineLabel) (name : Option (List ℕ)) (line : Option ℕ) → name ≡ session_name label.session → line ≡ cond o.lines (Some label.line) None → label_with label.tag name line ≡ put_back o label
put_back_is o label name line same-name same-line =
    ap (λ (n : Option (List ℕ)). label_with label.tag n line) same-name ∙ ap (λ (n : Option ℕ). label_with label.tag (session_name label.session) n) same-line

-- lines of text have no numbers: a tag and a name are all that is put back into them
pub same_line : (l m : ReplyLabel) → l.tag ≡ m.tag → l.name ≡ m.name → (r : Reply) → labelled_reply format.Line l r ≡ labelled_reply format.Line m r
same_line l m tag name r =
    ap (λ (t : Option (List ℕ)). labelled_line t l.name (reply_text format.Line r)) tag ∙ ap (λ (n : Option (List ℕ)). labelled_line m.tag n (reply_text format.Line r)) name

same-lines : (l m : ReplyLabel) → l.tag ≡ m.tag → l.name ≡ m.name → (rs : List Reply) → labelled_replies format.Line l rs ≡ labelled_replies format.Line m rs
same-lines l m tag name [] = refl
same-lines l m tag name (r ∷ rs) =
    ap (λ (t : List ℕ). t ++ labelled_replies format.Line l rs) (same_line l m tag name r) ∙ ap (λ (t : List ℕ). labelled_reply format.Line m r ++ t) (same-lines l m tag name rs)

-- so a note whose replies are lines of text has each label with this tag and this name
pub notes_as : (old new : LabelledMonitor) (l m : ReplyLabel) (id : ℕ) (e : Event) (c : Change) → old.style.format ≡ format.Line → l.tag ≡ m.tag → l.name ≡ m.name → NotesEvent old new l id e c → NotesEvent old new m id e c
notes_as old new l m id e c lines tag name h =
    let s = step.Note id e in
    let t = h.takes.takes in
    let same : labelled_replies (reply_format old.style.format format.Line) (of_step l s) h.takes.replies ≡ labelled_replies (reply_format old.style.format format.Line) (of_step m s) h.takes.replies =
    subst (λ (f : Format). labelled_replies (reply_format f format.Line) (of_step l s) h.takes.replies ≡ labelled_replies (reply_format f format.Line) (of_step m s) h.takes.replies) (sym lines)
    (same-lines (of_step l s) (of_step m s) tag name h.takes.replies) in
    record {
      text = h.text;
      takes = record { style = h.takes.style; replies = h.takes.replies; takes = (t.0, t.1, t.2, t.3, t.4, t.5, t.6 ∙ same); changes = h.takes.changes; memory = h.takes.memory };
      opens = h.opens;
      grows = h.grows;
    }

-- ---- any item

-- the note of a line's event, as the line's item
pub carries_note : (old new : NamedMonitor) (label : LineLabel) (id : ℕ) (e : Event) (c : Change) → NotesEvent old.monitor new.monitor (put_back old.monitor.style label) id e c
    → ((name : List ℕ) → number_of new.names name ≡ after_change (number_of old.names) label.session c name) → CarriesOut old new label (item.Step format.Line (step.Note id e))
carries_note old new label id e c h names = record {
  style = h.takes.style;
  replies = h.takes.replies;
  more = h.text;
  takes = h.takes.takes;
  named = λ name. names name ∙ replies-change (number_of old.names) label.session h.takes.replies c h.takes.changes name;
  memory = h.takes.memory;
  grows = h.grows;
}

-- an item that a monitor took, with its names
pub carries_item : (old new : NamedMonitor) (taken : LabelledMonitor) (label : LineLabel) (i : Item) (c : Change) → TakesItem old.monitor taken (put_back old.monitor.style label) i taken.text.items c → taken.gathered ≡ old.monitor.gathered
    → new.monitor ≡ record taken { gathered = new.monitor.gathered } → new.monitor.gathered.bytes.items ≡ taken.gathered.bytes.items ++ taken.text.items
    → ((name : List ℕ) → number_of new.names name ≡ after_change (number_of old.names) label.session c name) → CarriesOut old new label i
carries_item old new taken label i c t kept same grows names = record {
  style = ap (λ (m : LabelledMonitor). m.style) same ∙ t.style;
  replies = t.replies;
  more = taken.text.items;
  takes = subst (λ (m : LabelledMonitor). Takes old.monitor.style (put_back old.monitor.style label) (state_of old.monitor.core) i (state_of m.core) t.replies taken.text.items) (sym same) t.takes;
  named = λ name. names name ∙ replies-change (number_of old.names) label.session t.replies c t.changes name;
  memory = λ off. subst (λ (m : LabelledMonitor). GotMemory old.monitor.core m.core t.replies) (sym same) (t.memory off);
  grows = grows ∙ ap (λ (g : Gathered). g.bytes.items ++ taken.text.items) kept;
}
