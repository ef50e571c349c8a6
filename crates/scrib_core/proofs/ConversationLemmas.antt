-- From the effects on records to the replies of steps.
use Rattle.std.proofs.Common.{◌≡◌, ◌↔◌, inl, ℕ, ◌<◌, ◌≤◌, Bool, true, false, cond, IsTrue, List, [], ◌∷◌, ◌++◌, map, length, Option, Some, None, option_map, nat_eq, refl, sym, ap, subst, ◌∙◌}
use Rattle.std.specs.Prelude.{IsSome, Result, Ok, Err, IfOk, IfErr, OnOk, OnErr}
use Rattle.std.specs.Map.{set_value}
use Rattle.std.specs.Cmp.{nat_eq_equiv}
use Rattle.std.proofs.lemmas.Bool.{true≢false}
use Rattle.std.proofs.lemmas.Bool.Decides.{Decides-eqb}
use Rattle.std.proofs.lemmas.List.{length-map, map-append}
use Rattle.std.proofs.lemmas.List.Sorted.{IsPermutation-map}
use Rattle.std.proofs.lemmas.Map.{lookup-set_value}
use Rattle.std.proofs.lemmas.Map.Made.{lookup-map_values}
use Rattle.std.proofs.lemmas.Map.Steps.{set_value_same}
use Rattle.scrib_types.specs.declared.event.Event.{Event}
use Rattle.scrib_types.specs.declared.event.Told.{Told}
use Rattle.scrib_types.specs.declared.event.Told.TheVariants as tell
use Rattle.scrib_types.specs.declared.event.Verdict.{Verdict}
use Rattle.scrib_types.specs.declared.event.Verdict.TheVariants.{Permitted, Offence, Withdrawn}
use Rattle.scrib_types.specs.Agreement.{Agreement}
use Rattle.scrib_record.specs.declared.version.Version.{Version}
use Rattle.scrib_types.specs.Complete.{IsComplete}
use Rattle.scrib_record.specs.CompleteRecords.{IsCompleteUnder}
use Rattle.scrib_record.specs.Stale.{Recorded, IsLawful}
use Rattle.scrib_record.specs.Told as record_verdict
use Rattle.scrib_record.specs.Turns.{new_record, new_fresh}
use Rattle.scrib_record.specs.Versions.{meaning_of, number_of, AreOfOneStamp}
use Rattle.scrib_library.specs.Holdings.{Holdings, HasNumber, AreNumbered}
use Rattle.scrib_library.specs.Modules.{Means, IsMeaning, MeansOnce}
use Rattle.scrib_tree.specs.declared.tree.ModuleTree.{ModuleTree}
use Rattle.scrib_core.specs.declared.conversation_steps.Noted.{Noted}
use Rattle.scrib_core.specs.declared.conversation_steps.Tested.{Tested}
use Rattle.scrib_core.specs.declared.conversation_steps.Judged.{Judged}
use Rattle.scrib_core.specs.declared.conversation_steps.Closed.{Closed}
use Rattle.scrib_core.specs.declared.step.Step.{Step}
use Rattle.scrib_core.specs.declared.step.Step.TheVariants.{Open, Note, Turn, Ask, Close}
use Rattle.scrib_core.specs.declared.reply.Refusal.{Refusal}
use Rattle.scrib_core.specs.declared.reply.Refusal.TheVariants as refusal
use Rattle.scrib_core.specs.declared.reply.Reply.{Reply}
use Rattle.scrib_core.specs.declared.reply.Reply.TheVariants as reply
use Rattle.scrib_core.specs.World.{Conversation, conversation, noted, opened, IsTakenOut, Follows, Refuses}
use Rattle.scrib_core.specs.Marks.{Mark, Fresh, IsStale, IsLeft, UpdatesMarks}
use Rattle.scrib_core.specs.Answers.{IsReportedIn, IsConcluded, IsAnswered, IsDue}
use Rattle.scrib_core.specs.Held.{Records, Held, LeavesRefused, record_at, conversation_of, world_of, mark_of, mark_at, marks_of, state, IsKnown, AreKnown}
use Rattle.scrib_core.specs.ConversationSteps.{IsPresent, IsOpened, OpenFails, IsNotedAt, NoteFails, IsTurnedAt, IsAskedAt, VerdictFails, IsClosedAt, CloseFails}
use Rattle.scrib_core.specs.ReplyValues.{open_reply_of, note_reply_of, verdict_reply_of, close_reply_of, tested_reply_of}
use Rattle.scrib_core.proofs.MarkLemmas.{fresh_mark, stale_mark, note_mark, turn_mark}

same_some : {X : Type 0} (x y : X) → Some x ≡ Some y → x ≡ y
same_some x y e = cc

none_some : {X : Type 0} (x : X) → None ≡ Some x → ⊥
none_some x e = cc

-- the conversation of a record
pub seen : (h : Holdings) (rs : Records) (id : ℕ) (o : Option Recorded) → record_at rs id ≡ o → conversation (world_of h rs) id ≡ option_map conversation_of o
seen h rs id o e = lookup-map_values conversation_of (nat_eq id) rs ∙ ap (λ (x : Option Recorded). option_map conversation_of x) e

pub record_seen : (h : Holdings) (rs : Records) (id : ℕ) (c : Conversation) → conversation (world_of h rs) id ≡ Some c → (r : Recorded) × (record_at rs id ≡ Some r) × (conversation_of r ≡ c)
record_seen h rs id c e = by (record_at rs id) refl
  where
    by : (o : Option Recorded) → record_at rs id ≡ o → (r : Recorded) × (record_at rs id ≡ Some r) × (conversation_of r ≡ c)
    by None f = let n = sym (seen h rs id None f) ∙ e in cc
    by (Some r) f = let n : Some (conversation_of r) ≡ Some c = sym (seen h rs id (Some r) f) ∙ e in (r, f, cc)

pub none_seen : (h : Holdings) (rs : Records) (id : ℕ) → conversation (world_of h rs) id ≡ None → record_at rs id ≡ None
none_seen h rs id e = by (record_at rs id) refl
  where
    by : (o : Option Recorded) → record_at rs id ≡ o → record_at rs id ≡ None
    by None f = f
    by (Some r) f = let n : Some (conversation_of r) ≡ None = sym (seen h rs id (Some r) f) ∙ e in cc

some_seen : (h : Holdings) (rs : Records) (id : ℕ) → IsSome (record_at rs id) → IsSome (conversation (world_of h rs) id)
some_seen h rs id s = subst IsSome (sym (seen h rs id (record_at rs id) refl)) (by (record_at rs id) s)
  where
    by : (o : Option Recorded) → IsSome o → IsSome (option_map conversation_of o)
    by None s = s
    by (Some r) s = s

-- the conversations after a record is replaced
set_seen : (test : ℕ → Bool) (rs : Records) (s : Recorded) → map (λ (e : ℕ × Recorded). (e.0, conversation_of e.1)) (set_value test rs s) ≡ set_value test (map (λ (e : ℕ × Recorded). (e.0, conversation_of e.1)) rs) (conversation_of s)
set_seen test [] s = refl
set_seen test (e ∷ rs) s = by (test e.0) (set_seen test rs s)
  where
    by : (b : Bool) → map (λ (e : ℕ × Recorded). (e.0, conversation_of e.1)) (set_value test rs s) ≡ set_value test (map (λ (e : ℕ × Recorded). (e.0, conversation_of e.1)) rs) (conversation_of s)
        → map (λ (e : ℕ × Recorded). (e.0, conversation_of e.1)) (cond b ((e.0, s) ∷ rs) (e ∷ set_value test rs s))
        ≡ cond b ((e.0, conversation_of s) ∷ map (λ (e : ℕ × Recorded). (e.0, conversation_of e.1)) rs) ((e.0, conversation_of e.1) ∷ set_value test (map (λ (e : ℕ × Recorded). (e.0, conversation_of e.1)) rs) (conversation_of s))
    by true tail = refl
    by false tail = ap (λ (t : List (ℕ × Conversation)). (e.0, conversation_of e.1) ∷ t) tail

-- the record of an id after a record is replaced
at_set : (rs : Records) (id i : ℕ) (s r : Recorded) → record_at rs id ≡ Some r → record_at (set_value (nat_eq id) rs s) i ≡ cond (nat_eq id i) (Some s) (record_at rs i)
at_set rs id i s r e = lookup-set_value nat_eq_equiv (nat_eq id) one i s rs (subst IsSome (sym e) refl)
  where
    one : (x y : ℕ) → nat_eq id x ≡ true → nat_eq id y ≡ nat_eq x y
    one x y t = ap (λ (n : ℕ). nat_eq n y) ((Decides-eqb id x).0 t)

-- the record of an id after a record is added
at_push_old : (rs : Records) (i : ℕ) (x : ℕ × Recorded) (r : Recorded) → record_at rs i ≡ Some r → record_at (rs ++ x ∷ []) i ≡ Some r
at_push_old [] i x r e = cc
at_push_old (y ∷ rs) i x r e = by (nat_eq i y.0) e (at_push_old rs i x r)
  where
    by : (b : Bool) → cond b (Some y.1) (record_at rs i) ≡ Some r → (record_at rs i ≡ Some r → record_at (rs ++ x ∷ []) i ≡ Some r) → cond b (Some y.1) (record_at (rs ++ x ∷ []) i) ≡ Some r
    by true e rest = e
    by false e rest = rest e

at_push_new : (rs : Records) (i : ℕ) (x : ℕ × Recorded) → record_at rs i ≡ None → record_at (rs ++ x ∷ []) i ≡ cond (nat_eq i x.0) (Some x.1) None
at_push_new [] i x e = refl
at_push_new (y ∷ rs) i x e = by (nat_eq i y.0) e (at_push_new rs i x)
  where
    by : (b : Bool) → cond b (Some y.1) (record_at rs i) ≡ None → (record_at rs i ≡ None → record_at (rs ++ x ∷ []) i ≡ cond (nat_eq i x.0) (Some x.1) None)
        → cond b (Some y.1) (record_at (rs ++ x ∷ []) i) ≡ cond (nat_eq i x.0) (Some x.1) None
    by true e rest = let n : Some y.1 ≡ None = e in cc
    by false e rest = rest e

-- the verdict reported on a record is reported on its conversation
verdict_holds : (h : Holdings) (rs : Records) (id : ℕ) (r : Recorded) (present : Option Version) (answer : Told) → AreNumbered h → MeansOnce h.modules → IsKnown h r → record_at rs id ≡ Some r
    → IsPresent h r.name present → IsLawful r → record_verdict.IsReported present r answer → IsReportedIn (state h rs) id answer
verdict_holds h rs id r present tell.Stale numbered once known e here lawful t =
    subst (λ (o : Option Recorded). IsStale (mark_at h o)) (sym e) (stale_mark h r present numbered once known here lawful t)
verdict_holds h rs id r present (tell.Judged v) numbered once known e here lawful t = (
  ap (mark_at h) e ∙ fresh_mark h r present numbered once known here t.0,
  (conversation_of r, seen h rs id (Some r) e, (option_map meaning_of present, here.meaning, t.2)),
)

-- the case where no mark changes
same_remarks : (h : Holdings) (rs : Records) (step : Step) → ((i events : ℕ) (m : Mark) → IsLeft step i events m m) → UpdatesMarks (world_of h rs) (marks_of h rs) step (world_of h rs) (marks_of h rs)
same_remarks h rs step left = record {
  unopened = λ id e. ap (mark_at h) (none_seen h rs id e);
  opened = λ id c e. inl (left id (length c.log) (marks_of h rs id));
}

-- the case where one record is replaced
module _ (h : Holdings) (old : Records) (id : ℕ) (r s : Recorded) (there : record_at old id ≡ Some r) where
  abbrev written : Records
  written = set_value (nat_eq id) old s

  pub at_itself : record_at written id ≡ Some s
  at_itself = at_set old id id s r there ∙ ap (λ (b : Bool). cond b (Some s) (record_at old id)) ((Decides-eqb id id).1 refl)

  at_other : (i : ℕ) → (id ≡ i → ⊥) → record_at written i ≡ record_at old i
  at_other i n = by (nat_eq id i) refl
    where
      by : (b : Bool) → nat_eq id i ≡ b → record_at written i ≡ record_at old i
      by true e = absurd (n ((Decides-eqb id i).0 e))
      by false e = at_set old id i s r there ∙ ap (λ (b : Bool). cond b (Some s) (record_at old i)) e

  set_known : IsKnown h s → AreKnown h old → AreKnown h written
  set_known new known i q e = by (nat_eq id i) refl
    where
      by : (b : Bool) → nat_eq id i ≡ b → IsKnown h q
      by true d =
          let same : Some s ≡ Some q = sym at_itself ∙ ap (record_at written) ((Decides-eqb id i).0 d) ∙ e in
          let is : s ≡ q = cc in
          subst (IsKnown h) is new
      by false d = known i q (sym (at_other i (λ same. true≢false (sym ((Decides-eqb id i).1 same) ∙ d))) ∙ e)

  abbrev Left : Step → ℕ → ℕ → Type 0
  Left step i events = IsLeft step i events (marks_of h old i) (marks_of h written i)

  set_remarks : (step : Step) → IsLeft step id (length r.log) (mark_of h r) (mark_of h s) → ((i events : ℕ) (m : Mark) → (id ≡ i → ⊥) → IsLeft step i events m m)
      → UpdatesMarks (world_of h old) (marks_of h old) step (world_of h written) (marks_of h written)
  set_remarks step itself others = record {
    unopened = λ i e.
        let none = none_seen h old i e in
        let other : id ≡ i → ⊥ = λ same. let n : Some r ≡ None = sym there ∙ ap (record_at old) same ∙ none in cc in
        ap (mark_at h) (at_other i other ∙ none);
    opened = λ i c e. inl (by i (nat_eq id i) refl c (record_seen h old i c e));
  }
    where
      self : Left step id (length r.log)
      self = subst (λ (o : Option Recorded). IsLeft step id (length r.log) (mark_at h o) (marks_of h written id)) (sym there) (subst (λ (o : Option Recorded). IsLeft step id (length r.log) (mark_of h r) (mark_at h o)) (sym at_itself) itself)

      by : (i : ℕ) (b : Bool) → nat_eq id i ≡ b → (c : Conversation) → ((q : Recorded) × (record_at old i ≡ Some q) × (conversation_of q ≡ c)) → Left step i (length c.log)
      by i true d c q =
          let at : id ≡ i = (Decides-eqb id i).0 d in
          let both : Some r ≡ Some q.0 = sym there ∙ ap (record_at old) at ∙ q.1 in
          let is : r ≡ q.0 = cc in
          let log : length r.log ≡ length c.log = ap (λ (x : Recorded). length x.log) is ∙ ap (λ (x : Conversation). length x.log) q.2 in
          subst (Left step i) log (subst (λ (x : ℕ). Left step x (length r.log)) at self)
      by i false d c q =
          let other : id ≡ i → ⊥ = λ same. true≢false (sym ((Decides-eqb id i).1 same) ∙ d) in
          subst (λ (m : Mark). IsLeft step i (length c.log) (marks_of h old i) m) (ap (mark_at h) (sym (at_other i other))) (others i (length c.log) (marks_of h old i) other)

-- the case where one record is taken out
module _ (h : Holdings) (old : Records) (id : ℕ) (r : Recorded) (new : Records) (t : IsTakenOut id old r new) where
  taken_seen : IsTakenOut id (world_of h old).conversations (conversation_of r) (world_of h new).conversations
  taken_seen = record {
    there = seen h old id (Some r) t.there;
    rest = IsPermutation-map (λ (e : ℕ × Recorded). (e.0, conversation_of e.1)) old ((id, r) ∷ new) t.rest;
    gone = seen h new id None t.gone;
    others = λ i n. seen h new i (record_at new i) refl ∙ ap (λ (o : Option Recorded). option_map conversation_of o) (t.others i n) ∙ sym (seen h old i (record_at old i) refl);
  }

  -- no record is added
  none_after : (i : ℕ) → record_at old i ≡ None → record_at new i ≡ None
  none_after i e = by (nat_eq i id) refl
    where
      by : (b : Bool) → nat_eq i id ≡ b → record_at new i ≡ None
      by true d = ap (record_at new) ((Decides-eqb i id).0 d) ∙ t.gone
      by false d = t.others i (λ same. true≢false (sym ((Decides-eqb i id).1 same) ∙ d)) ∙ e

  some_after : (i : ℕ) (q : Recorded) → record_at new i ≡ Some q → record_at old i ≡ Some q
  some_after i q e = by (nat_eq i id) refl
    where
      by : (b : Bool) → nat_eq i id ≡ b → record_at old i ≡ Some q
      by true d = let none : None ≡ Some q = sym t.gone ∙ ap (record_at new) (sym ((Decides-eqb i id).0 d)) ∙ e in absurd (none_some q none)
      by false d = sym (t.others i (λ same. true≢false (sym ((Decides-eqb i id).1 same) ∙ d))) ∙ e

  taken_known : AreKnown h old → AreKnown h new
  taken_known known i q e = known i q (some_after i q e)

  taken_remarks : UpdatesMarks (world_of h old) (marks_of h old) (Close id) (world_of h new) (marks_of h new)
  taken_remarks = record {
    unopened = λ i e. ap (mark_at h) (none_after i (none_seen h old i e));
    opened = λ i c e. inl (
      λ same. ap (mark_at h) (ap (record_at new) (sym same) ∙ t.gone),
      λ apart. ap (mark_at h) (t.others i (λ same. apart (sym same))),
    );
  }

-- whether a log is complete, in terms of its protocol's present meaning
module _ (modules : List ModuleTree) (once : MeansOnce modules) (c : Conversation) where
  abbrev CompleteNow : Verdict → Type 0
  CompleteNow v = (v ≡ Permitted) × ((a : Agreement) × Means modules c.name a × IsComplete a c.log)

  pub complete_now : (o : Option Agreement) → IsMeaning modules c.name o → (v : Verdict) → IsCompleteUnder o c.log v → CompleteNow v
  complete_now None m Permitted x = absurd x
  complete_now None m (Offence place role allowed) x = absurd x
  complete_now None m Withdrawn x = absurd x
  complete_now (Some a) m Permitted x = (refl, (a, m, x))
  complete_now (Some a) m (Offence place role allowed) x = absurd x
  complete_now (Some a) m Withdrawn x = absurd x

  complete_then : (o : Option Agreement) → IsMeaning modules c.name o → (v : Verdict) → CompleteNow v → IsCompleteUnder o c.log v
  complete_then None m v x = absurd (m x.1.0 x.1.1)
  complete_then (Some b) m v x =
      let same : x.1.0 ≡ b = once c.name x.1.0 b x.1.1 m in
      subst (λ (w : Verdict). IsCompleteUnder (Some b) c.log w) (sym x.0) (subst (λ (a : Agreement). IsComplete a c.log) same x.1.2)

  complete_means : (o : Option Agreement) → IsMeaning modules c.name o → (v : Verdict) (b : Bool) → IsTrue b ↔ IsCompleteUnder o c.log v → IsTrue b ↔ CompleteNow v
  complete_means o m v b is = (λ t. complete_now o m v (is.0 t), λ x. is.1 (complete_then o m v x))

-- the steps that leave each mark, and a turn of another conversation
left_by_note : (id : ℕ) (e : Event) (i events : ℕ) (m : Mark) → IsLeft (Note id e) i events m m
left_by_note id e i events m = refl

left_by_ask : (id i events : ℕ) (m : Mark) → IsLeft (Ask id) i events m m
left_by_ask id i events m = refl

left_by_other_turn : (id i events : ℕ) (m : Mark) → (id ≡ i → ⊥) → IsLeft (Turn id) i events m m
left_by_other_turn id i events m other = (λ same. absurd (other same), λ apart. refl)

-- the version that a record holds after a turn is known
turned_known : (h : Holdings) (r : Recorded) (present : Option Version) → AreNumbered h → IsPresent h r.name present → AreOfOneStamp present r.held → IsKnown h r
turned_known h r present numbered here held = record {
  used = λ v e. (by v present here (subst (AreOfOneStamp present) e held)).0;
  named = λ v e name there. numbered.once name r.name (number_of v) there (by v present here (subst (AreOfOneStamp present) e held)).1;
  means = λ v e there. (by v present here (subst (AreOfOneStamp present) e held)).2;
}
  where
    by : (v : Version) (p : Option Version) → IsPresent h r.name p → AreOfOneStamp p (Some v) → (number_of v < h.used) × HasNumber h r.name (number_of v) × Means h.modules r.name (meaning_of v)
    by v None i q = absurd q
    by v (Some p) i q =
        let below : number_of p < h.used = numbered.below r.name (number_of p) i.number in
        (subst (λ (n : ℕ). n < h.used) q.0 below, subst (HasNumber h r.name) q.0 i.number, subst (Means h.modules r.name) q.1 i.meaning)

noted_known : (h : Holdings) (r s : Recorded) → s.name ≡ r.name → s.held ≡ r.held → IsKnown h r → IsKnown h s
noted_known h r s name held known = record {
  used = λ v e. known.used v (sym held ∙ e);
  named = λ v e n there. known.named v (sym held ∙ e) n there ∙ sym name;
  means = λ v e there. subst (λ (n : List (List ℕ)). Means h.modules n (meaning_of v)) (sym name) (known.means v (sym held ∙ e) (subst (λ (n : List (List ℕ)). HasNumber h n (number_of v)) name there));
}

-- the contents with these records
abbrev pub held : Holdings → Records → Held
held h rs = record { library = h; records = rs }

-- the effect of a reply on the state; a refusal leaves the contents unchanged
pub record Makes (h : Holdings) (old : Records) (step : Step) (answer : Reply) (k : Holdings) (new : Records) : Type 0 where
  pub answered : IsAnswered (state h old) step answer (state k new)
  pub due : IsDue (world_of h old) step answer
  pub left : LeavesRefused answer (held h old) (held k new)
  pub known : AreKnown k new

module _ (h : Holdings) (old : Records) (numbered : AreNumbered h) (once : MeansOnce h.modules) (known : AreKnown h old) where
  pub refused : (step : Step) (f : Refusal) (new : Records) → Refuses (world_of h old) step f → IsDue (world_of h old) step (reply.Refused f) → new ≡ old → Makes h old step (reply.Refused f) h new
  refused step f new refuses due same = record {
    answered = (refuses, ap (state h) same);
    due = due;
    left = ap (held h) same;
    known = subst (AreKnown h) (sym same) known;
  }

  module _ (id : ℕ) (e : Event) (new : Records) where
    note_refused : (f : Refusal) → NoteFails old id f → new ≡ old → Makes h old (Note id e) (reply.Refused f) h new
    note_refused refusal.AlreadyOpen x same = absurd x
    note_refused refusal.UnknownProtocol x same = absurd x
    note_refused refusal.TooManyConversations x same = absurd x
    note_refused refusal.NoConversation x same = refused (Note id e) refusal.NoConversation new (seen h old id None x) tt same
    note_refused (refusal.Edit f) x same = absurd x
    note_refused refusal.LogFull x same = refused (Note id e) refusal.LogFull new (conversation_of x.0, seen h old id (Some x.0) x.1, x.2) tt same
    note_refused refusal.OutOfMemory x same = refused (Note id e) refusal.OutOfMemory new tt (conversation_of x.0, seen h old id (Some x.0) x.1, x.2) same

    note_made : (place : ℕ) (answer : Told) → IsNotedAt h old id e place answer new → Makes h old (Note id e) (reply.Noted id place answer) h new
    note_made place answer x =
        let r = x.before in
        let s = x.after in
        let rest : Records = set_value (nat_eq id) old x.after in
        let k : IsKnown h x.before = known id x.before x.there in
        let k' : IsKnown h x.after = noted_known h x.before x.after x.noted.name x.noted.held k in
        let here : IsPresent h x.after.name x.present = subst (λ (n : List (List ℕ)). IsPresent h n x.present) (sym x.noted.name) x.is_present in
        let there : record_at (set_value (nat_eq id) old x.after) id ≡ Some x.after = at_itself h old id x.before x.after x.there in
        let marked : mark_of h x.after ≡ mark_of h x.before = note_mark h x.before x.after x.present numbered once e answer k k' x.is_present x.noted in
        let conv : conversation_of x.after ≡ noted (conversation_of x.before) e = λ j. record { name = x.noted.name j; log = x.noted.log j } in
        let world : world_of h rest ≡ record { profile = h.profile; modules = h.modules; used = h.used; conversations = set_value (nat_eq id) (world_of h old).conversations (noted (conversation_of x.before) e) } =
        λ j. record { profile = h.profile; modules = h.modules; used = h.used; conversations = (set_seen (nat_eq id) old x.after ∙ ap (set_value (nat_eq id) (world_of h old).conversations) conv) j } in
        let made : Makes h old (Note id e) (reply.Noted id place answer) h rest = record {
          answered = record {
            follows = (conversation_of x.before, seen h old id (Some x.before) x.there, x.room, world);
            replies = (refl, (conversation_of x.after, seen h rest id (Some x.after) there, x.place_is), verdict_holds h rest id x.after x.present answer numbered once k' there here x.lawful x.noted.told);
            remarks = set_remarks h old id x.before x.after x.there (Note id e) marked (λ j events m other. refl);
          };
          due = tt;
          left = tt;
          known = set_known h old id x.before x.after x.there k' known;
        } in
        subst (Makes h old (Note id e) (reply.Noted id place answer) h) (sym x.put) made

    pub note_answered : (r : Result Noted Refusal) → IfOk r (λ n. IsNotedAt h old id e n.place n.told new) → IfErr r (NoteFails old id) → OnErr r (new ≡ old) → Makes h old (Note id e) (note_reply_of id r) h new
    note_answered (Ok n) made fails same = note_made n.place n.told made
    note_answered (Err f) made fails same = note_refused f fails same

    pub tested_answered : (r : Result Tested Refusal) → IfOk r (λ t. IsNotedAt h old id e t.noted.place t.noted.told new) → IfErr r (NoteFails old id) → OnErr r (new ≡ old) → Makes h old (Note id e) (tested_reply_of id r) h new
    tested_answered (Ok t) made fails same = note_made t.noted.place t.noted.told made
    tested_answered (Err f) made fails same = note_refused f fails same

  module _ (id : ℕ) (new : Records) where
    turn_refused : (f : Refusal) → VerdictFails old id f → new ≡ old → Makes h old (Turn id) (reply.Refused f) h new
    turn_refused refusal.AlreadyOpen x same = absurd x
    turn_refused refusal.UnknownProtocol x same = absurd x
    turn_refused refusal.TooManyConversations x same = absurd x
    turn_refused refusal.NoConversation x same = refused (Turn id) refusal.NoConversation new (seen h old id None x) tt same
    turn_refused (refusal.Edit f) x same = absurd x
    turn_refused refusal.LogFull x same = absurd x
    turn_refused refusal.OutOfMemory x same = refused (Turn id) refusal.OutOfMemory new tt (some_seen h old id x) same

    turn_made : (name : List (List ℕ)) (events : ℕ) (answer : Told) → IsTurnedAt h old id name events answer new → Makes h old (Turn id) (reply.Judged id name events answer) h new
    turn_made name events answer x =
        let rest : Records = set_value (nat_eq id) old x.after in
        let k : IsKnown h x.before = known id x.before x.there in
        let here : IsPresent h x.after.name x.present = subst (λ (n : List (List ℕ)). IsPresent h n x.present) (sym x.turned.name) x.is_present in
        let k' : IsKnown h x.after = turned_known h x.after x.present numbered here x.turned.stamp in
        let there : record_at (set_value (nat_eq id) old x.after) id ≡ Some x.after = at_itself h old id x.before x.after x.there in
        let conv : conversation_of x.after ≡ conversation_of x.before = λ j. record { name = x.turned.name j; log = x.turned.log j } in
        let kept : set_value (nat_eq id) (world_of h old).conversations (conversation_of x.before) ≡ (world_of h old).conversations =
        set_value_same (nat_eq id) (world_of h old).conversations (conversation_of x.before) (seen h old id (Some x.before) x.there) in
        let world : world_of h rest ≡ world_of h old =
        λ j. record { profile = h.profile; modules = h.modules; used = h.used; conversations = (set_seen (nat_eq id) old x.after ∙ ap (set_value (nat_eq id) (world_of h old).conversations) conv ∙ kept) j } in
        let marked = turn_mark h x.before x.after x.present numbered once answer k k' x.is_present x.turned in
        let made : Makes h old (Turn id) (reply.Judged id name events answer) h rest = record {
          answered = record {
            follows = (some_seen h old id (subst IsSome (sym x.there) refl), world);
            replies = (
              refl,
              record {
                of = conversation_of x.after;
                there = seen h rest id (Some x.after) there;
                name_is = x.name_is;
                events_are = x.events_are;
                reported = verdict_holds h rest id x.after x.present answer numbered once k' there here x.lawful x.turned.told;
              },
            );
            remarks = set_remarks h old id x.before x.after x.there (Turn id) (λ same. marked, λ apart. absurd (apart refl)) (left_by_other_turn id);
          };
          due = tt;
          left = tt;
          known = set_known h old id x.before x.after x.there k' known;
        } in
        subst (Makes h old (Turn id) (reply.Judged id name events answer) h) (sym x.put) made

    pub turn_answered : (r : Result Judged Refusal) → IfOk r (λ j. IsTurnedAt h old id j.name j.events j.told new) → IfErr r (VerdictFails old id) → OnErr r (new ≡ old)
        → Makes h old (Turn id) (verdict_reply_of id r) h new
    turn_answered (Ok j) made fails same = turn_made j.name j.events j.told made
    turn_answered (Err f) made fails same = turn_refused f fails same

  module _ (id : ℕ) (new : Records) where
    close_refused : (f : Refusal) → CloseFails old id f → new ≡ old → Makes h old (Close id) (reply.Refused f) h new
    close_refused refusal.AlreadyOpen x same = absurd x
    close_refused refusal.UnknownProtocol x same = absurd x
    close_refused refusal.TooManyConversations x same = absurd x
    close_refused refusal.NoConversation x same = refused (Close id) refusal.NoConversation new (seen h old id None x) tt same
    close_refused (refusal.Edit f) x same = absurd x
    close_refused refusal.LogFull x same = absurd x
    close_refused refusal.OutOfMemory x same = refused (Close id) refusal.OutOfMemory new tt (some_seen h old id x) same

    concluded : (d : Closed) → IsClosedAt h old id d new → IsConcluded (world_of h old) id d.name d.events d.verdict d.complete
    concluded d x =
        let o = option_map meaning_of x.present in record {
          of = conversation_of x.before;
          there = seen h old id (Some x.before) x.taken.there;
          name_is = x.name_is;
          events_are = x.events_are;
          fresh = (o, x.is_present.meaning, x.whole.judges);
          complete_is = complete_means h.modules once (conversation_of x.before) o x.is_present.meaning d.verdict d.complete x.whole.complete;
        }

    close_made : (d : Closed) → IsClosedAt h old id d new → Makes h old (Close id) (reply.Closed id d.name d.events d.verdict d.complete) h new
    close_made d x = record {
      answered = record {
        follows = ((conversation_of x.before, taken_seen h old id x.before new x.taken), refl, refl, refl);
        replies = (refl, concluded d x);
        remarks = taken_remarks h old id x.before new x.taken;
      };
      due = tt;
      left = tt;
      known = taken_known h old id x.before new x.taken known;
    }

    pub close_answered : (r : Result Closed Refusal) → IfOk r (λ d. IsClosedAt h old id d new) → IfErr r (CloseFails old id) → OnErr r (new ≡ old) → Makes h old (Close id) (close_reply_of id r) h new
    close_answered (Ok d) made fails same = close_made d made
    close_answered (Err f) made fails same = close_refused f fails same

  module _ (id : ℕ) where
    ask_refused : (f : Refusal) → VerdictFails old id f → Makes h old (Ask id) (reply.Refused f) h old
    ask_refused refusal.AlreadyOpen x = absurd x
    ask_refused refusal.UnknownProtocol x = absurd x
    ask_refused refusal.TooManyConversations x = absurd x
    ask_refused refusal.NoConversation x = refused (Ask id) refusal.NoConversation old (seen h old id None x) tt refl
    ask_refused (refusal.Edit f) x = absurd x
    ask_refused refusal.LogFull x = absurd x
    ask_refused refusal.OutOfMemory x = refused (Ask id) refusal.OutOfMemory old tt (some_seen h old id x) refl

    ask_made : (name : List (List ℕ)) (events : ℕ) (answer : Told) → IsAskedAt h old id name events answer → Makes h old (Ask id) (reply.Judged id name events answer) h old
    ask_made name events answer x = record {
      answered = record {
        follows = (some_seen h old id (subst IsSome (sym x.there) refl), refl);
        replies = (
          refl,
          record {
            of = conversation_of x.of;
            there = seen h old id (Some x.of) x.there;
            name_is = x.name_is;
            events_are = x.events_are;
            reported = verdict_holds h old id x.of x.present answer numbered once (known id x.of x.there) x.there x.is_present x.lawful x.told;
          },
        );
        remarks = same_remarks h old (Ask id) (left_by_ask id);
      };
      due = tt;
      left = tt;
      known = known;
    }

    pub ask_answered : (r : Result Judged Refusal) → IfOk r (λ j. IsAskedAt h old id j.name j.events j.told) → IfErr r (VerdictFails old id) → Makes h old (Ask id) (verdict_reply_of id r) h old
    ask_answered (Ok j) made fails = ask_made j.name j.events j.told made
    ask_answered (Err f) made fails = ask_refused f fails

  module _ (id : ℕ) (name : List (List ℕ)) (new : Records) where
    open_refused : (f : Refusal) → OpenFails 65536 h old id name f → new ≡ old → Makes h old (Open id name) (reply.Refused f) h new
    open_refused refusal.AlreadyOpen x same = refused (Open id name) refusal.AlreadyOpen new (some_seen h old id x) tt same
    open_refused refusal.UnknownProtocol x same = refused (Open id name) refusal.UnknownProtocol new (seen h old id None x.0, x.1) tt same
    open_refused refusal.TooManyConversations x same =
        refused (Open id name) refusal.TooManyConversations new (seen h old id None x.0, x.1, subst (λ (n : ℕ). 65536 ≤ n) (sym (length-map old (λ (e : ℕ × Recorded). (e.0, conversation_of e.1)))) x.2) tt same
    open_refused refusal.NoConversation x same = absurd x
    open_refused (refusal.Edit f) x same = absurd x
    open_refused refusal.LogFull x same = absurd x
    open_refused refusal.OutOfMemory x same =
        refused (Open id name) refusal.OutOfMemory new tt (seen h old id None x.0, x.1, subst (λ (n : ℕ). n < 65536) (sym (length-map old (λ (e : ℕ × Recorded). (e.0, conversation_of e.1)))) x.2) same

    module _ (v : Version) (absent : record_at old id ≡ None) (present : IsPresent h name (Some v)) (room : length old < 65536) where
      new_known : IsKnown h (new_record name v)
      new_known = turned_known h (new_record name v) (Some v) numbered present (refl, refl)

      new_is_fresh : mark_of h (new_record name v) ≡ Fresh
      new_is_fresh = fresh_mark h (new_record name v) (Some v) numbered once new_known present (new_fresh name v)

      unopened_mark : (b : Bool) → mark_at h (cond b (Some (new_record name v)) None) ≡ Fresh
      unopened_mark true = new_is_fresh
      unopened_mark false = refl

      known_there : (q : Recorded) (b : Bool) → cond b (Some (new_record name v)) None ≡ Some q → IsKnown h q
      known_there q true d = subst (IsKnown h) (same_some (new_record name v) q d) new_known
      known_there q false d = absurd (none_some q d)

      pushed_known : (j : ℕ) (q : Recorded) (o : Option Recorded) → record_at old j ≡ o → record_at (old ++ (id, new_record name v) ∷ []) j ≡ Some q → IsKnown h q
      pushed_known j q (Some r) f e = subst (IsKnown h) (same_some r q (sym (at_push_old old j (id, new_record name v) r f) ∙ e)) (known j r f)
      pushed_known j q None f e = known_there q (nat_eq j id) (sym (at_push_new old j (id, new_record name v) f) ∙ e)

      pushed_remarks : UpdatesMarks (world_of h old) (marks_of h old) (Open id name) (world_of h (old ++ (id, new_record name v) ∷ [])) (marks_of h (old ++ (id, new_record name v) ∷ []))
      pushed_remarks = record {
        unopened = λ j e. ap (mark_at h) (at_push_new old j (id, new_record name v) (none_seen h old j e)) ∙ unopened_mark (nat_eq j id);
        opened = λ j c e.
            let q = record_seen h old j c e in
            inl (ap (mark_at h) (at_push_old old j (id, new_record name v) q.0 q.1 ∙ sym q.1));
      }

      pushed_world : world_of h (old ++ (id, new_record name v) ∷ []) ≡ record { profile = h.profile; modules = h.modules; used = h.used; conversations = (world_of h old).conversations ++ (id, opened name) ∷ [] }
      pushed_world = ap (λ (cs : List (ℕ × Conversation)). record { profile = h.profile; modules = h.modules; used = h.used; conversations = cs }) (map-append (λ (e : ℕ × Recorded). (e.0, conversation_of e.1)) old ((id, new_record name v) ∷ []))

      few : length (world_of h old).conversations < 65536
      few = subst (λ (k : ℕ). k < 65536) (sym (length-map old (λ (e : ℕ × Recorded). (e.0, conversation_of e.1)))) room

      open_follows : Follows (world_of h old) (Open id name) (world_of h (old ++ (id, new_record name v) ∷ []))
      open_follows = (seen h old id None absent, (meaning_of v, present.meaning), few, pushed_world)

      open_made : (n : List (List ℕ)) → n ≡ name → Makes h old (Open id name) (reply.Opened id n) h (old ++ (id, new_record name v) ∷ [])
      open_made n named = record {
        answered = record { follows = open_follows; replies = (refl, named); remarks = pushed_remarks };
        due = tt;
        left = tt;
        known = λ j q e. pushed_known j q (record_at old j) refl e;
      }

    opened_answered : (n : List (List ℕ)) → n ≡ name → IsOpened 65536 h old id name new → Makes h old (Open id name) (reply.Opened id n) h new
    opened_answered n named x = subst (Makes h old (Open id name) (reply.Opened id n) h) (sym x.added) (open_made x.version x.absent x.present x.room n named)

    pub open_answered : (r : Result (List (List ℕ)) Refusal) → IfOk r (λ n. n ≡ name) → OnOk r (IsOpened 65536 h old id name new) → IfErr r (OpenFails 65536 h old id name) → OnErr r (new ≡ old)
        → Makes h old (Open id name) (open_reply_of id r) h new
    open_answered (Ok n) named made fails same = opened_answered n named made
    open_answered (Err f) named made fails same = open_refused f fails same
