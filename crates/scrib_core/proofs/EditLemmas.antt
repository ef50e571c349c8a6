-- The effect of an edit on the marks, read off the records, which an edit leaves alone.
use Rattle.std.proofs.Common.{◌≡◌, ◌≢◌, ◌==◌, ◌⊎◌, inl, inr, ℕ, ◌/◌, ◌<◌, ◌≤◌, Bool, true, false, if◌then◌else◌, List, length, Option, Some, None, option_map, refl, sym, ap, subst, ◌∙◌, arith}
use Rattle.std.specs.Prelude.{Ok, Err, Result, IfOk, IfErr, OnOk, OnErr}
use Rattle.std.proofs.lemmas.Bool.{true≢false}
use Rattle.std.proofs.lemmas.Bool.Decides.{Decides-eqb}
use Rattle.scrib_types.specs.Agreement.{Agreement}
use Rattle.scrib_types.specs.declared.profile.Profile.{Profile}
use Rattle.scrib_record.specs.declared.version.Version.{Version}
use Rattle.scrib_record.specs.Stale.{is_final, Recorded}
use Rattle.scrib_record.specs.Versions.{meaning_of, number_of}
use Rattle.scrib_library.specs.declared.changes.ChangeKind.{ChangeKind}
use Rattle.scrib_library.specs.declared.changes.ChangeKind.TheVariants as change
use Rattle.scrib_library.specs.Edits.{Changes}
use Rattle.scrib_library.specs.Holdings.{Holdings, HasNumber, HasStamp, AreNumbered, IsStamped}
use Rattle.scrib_library.specs.Modules.{Means, MeansOnce, AllProject}
use Rattle.scrib_library.specs.Profiles.{ProfileFails}
use Rattle.scrib_core.specs.World.{Conversation, Refuses}
use Rattle.scrib_core.specs.Answers.{IsDue}
use Rattle.scrib_core.specs.ReplyValues.{refusal_of, edit_reply_of, profile_reply_of}
use Rattle.scrib_core.specs.Marks.{Mark, Fresh, Stale, IsLeft, IsReset, UpdatesMarks}
use Rattle.scrib_core.specs.Held.{number_at, mark, held_number, mark_of, mark_at, marks_of, conversation_of, world_of, Records, record_at, IsKnown, AreKnown}
use Rattle.scrib_library.specs.declared.changes.Changes.{Changes as EditChanges}
use Rattle.scrib_library.specs.Edits.{IsPut, IsChanges, AreVersionsUsed, IsWithdrawal, AreWithdrawn, PutFails, WithdrawFails}
use Rattle.scrib_library.specs.declared.fault.EditFault.{EditFault}
use Rattle.scrib_library.specs.declared.fault.EditFault.TheVariants as fault
use Rattle.scrib_tree.specs.declared.tree.ModuleTree.{ModuleTree}
use Rattle.scrib_core.specs.declared.step.Step.{Step}
use Rattle.scrib_core.specs.declared.step.Step.TheVariants.{Put, Withdraw}
use Rattle.scrib_core.specs.declared.step.Step.TheVariants as step
use Rattle.scrib_core.specs.declared.reply.Edit.TheVariants as edit
use Rattle.scrib_core.specs.declared.reply.Refusal.{Refusal}
use Rattle.scrib_core.specs.declared.reply.Refusal.TheVariants as refusal
use Rattle.scrib_core.specs.declared.reply.Reply.TheVariants as reply
use Rattle.scrib_core.proofs.MarkLemmas.{number_there, number_absent}
use Rattle.scrib_core.proofs.ConversationLemmas.{record_seen, none_seen, Makes, refused}

module _ (h k : Holdings) (before : AreNumbered h) (after : AreNumbered k) (stamped : IsStamped h k) (grows : h.used ≤ k.used) where
  -- a used number keeps its meaning
  stood : (name : List (List ℕ)) (n : ℕ) → n < h.used → HasNumber k name n → (a : Agreement) × HasStamp k name a n × HasStamp h name a n
  stood name n used there =
      let means = after.meant name n there in
      let now : HasStamp k name means.0 n = record { meaning = means.1; number = there } in
      elim (stamped.fresh name means.0 n now) [
        | inl was ↦ (means.0, now, was)
        | inr new ↦ absurd (omega (arith, used, new))
      ]

  module _ (r : Recorded) (known : IsKnown h r) where
    -- the record is known after the edit
    pub known_after : MeansOnce h.modules → IsKnown k r
    known_after once = record {
      used = λ v e. let u = known.used v e in omega (arith, u, grows);
      named = λ v e name there.
          let s = stood name (number_of v) (known.used v e) there in
          known.named v e name s.2.number;
      means = λ v e there.
          let s = stood r.name (number_of v) (known.used v e) there in
          let was : Means h.modules r.name (meaning_of v) = known.means v e s.2.number in
          let same : s.0 ≡ meaning_of v = once r.name s.0 (meaning_of v) s.2.meaning was in
          subst (Means k.modules r.name) same s.1.meaning;
    }

    abbrev at : Option ℕ → Mark
    at present = mark present (held_number r) r.verdict r.judged (length r.log)

    -- if the name has another number than the record holds, no turn was made under it
    reset_none : number_at k.stamps r.name ≡ None → IsReset (mark_of k r)
    reset_none e = subst IsReset (sym (ap at e)) (by (held_number r))
      where
        by : (held : Option ℕ) → IsReset (mark None held r.verdict r.judged (length r.log))
        by None = tt
        by (Some l) = refl

    reset_some : (n : ℕ) → number_at k.stamps r.name ≡ Some n → (HasNumber h r.name n → ⊥) → IsReset (mark_of k r)
    reset_some n e other = subst IsReset (sym (ap at e)) (by r.held refl)
      where
        there : HasNumber k r.name n
        there = number_there k.stamps r.name n e

        apart : (v : Version) → r.held ≡ Some v → (b : Bool) → (n == number_of v) ≡ b
            → IsReset (if b then (if is_final r.verdict r.judged (length r.log) then Fresh else Stale (r.judged / 256)) else Stale 0)
        apart v q true d =
            let same : n ≡ number_of v = (Decides-eqb n (number_of v)).0 d in
            let used : n < h.used = subst (λ (i : ℕ). i < h.used) (sym same) (known.used v q) in
            let s = stood r.name n used there in
            absurd (other s.2.number)
        apart v q false d = refl

        by : (held : Option Version) → r.held ≡ held → IsReset (mark (Some n) (option_map number_of held) r.verdict r.judged (length r.log))
        by None q = refl
        by (Some v) q = apart v q (n == number_of v) refl

    kept_mark : number_at k.stamps r.name ≡ number_at h.stamps r.name → mark_of k r ≡ mark_of h r
    kept_mark e = ap at e

    abbrev pub ChangedMark : Type 0
    ChangedMark = (kind : ChangeKind) × Changes h.modules k.modules kind r.name × IsReset (mark_of k r)

    nothing_before : number_at h.stamps r.name ≡ None → (a : Agreement) → Means h.modules r.name a → ⊥
    nothing_before e a m = let n = before.numbered r.name a m in number_absent h.stamps r.name n.0 e n.1

    nothing_after : number_at k.stamps r.name ≡ None → (a : Agreement) → Means k.modules r.name a → ⊥
    nothing_after e a m = let n = after.numbered r.name a m in number_absent k.stamps r.name n.0 e n.1

    replaced : (m n : ℕ) → number_at h.stamps r.name ≡ Some m → number_at k.stamps r.name ≡ Some n → (m ≡ n → ⊥) → ChangedMark
    replaced m n e f apart =
        let was = number_there h.stamps r.name m e in
        let now = number_there k.stamps r.name n f in
        let old = before.meant r.name m was in
        let new = after.meant r.name n now in
        let other : old.0 ≢ new.0 = λ same.
        let kept : HasNumber k r.name m = stamped.kept r.name old.0 m (record { meaning = old.1; number = was }) (subst (Means k.modules r.name) (sym same) new.1) in
        apart (after.one r.name m n kept now) in
        (change.Replaced, (old.0, new.0, old.1, new.1, other), reset_some n f (λ there. apart (before.one r.name m n was there)))

    by_numbers : (p q : Option ℕ) → number_at h.stamps r.name ≡ p → number_at k.stamps r.name ≡ q → (mark_of k r ≡ mark_of h r) ⊎ ChangedMark
    by_numbers None None e f = inl (kept_mark (f ∙ sym e))
    by_numbers None (Some n) e f =
        inr (change.Added, (nothing_before e, after.meant r.name n (number_there k.stamps r.name n f)), reset_some n f (λ there. number_absent h.stamps r.name n e there))
    by_numbers (Some m) None e f =
        inr (change.Withdrawn, (before.meant r.name m (number_there h.stamps r.name m e), nothing_after f), reset_none f)
    by_numbers (Some m) (Some n) e f = by (m == n) refl
      where
        by : (b : Bool) → (m == n) ≡ b → (mark_of k r ≡ mark_of h r) ⊎ ChangedMark
        by true d = inl (kept_mark (f ∙ ap (λ (i : ℕ). Some i) (sym ((Decides-eqb m n).0 d)) ∙ sym e))
        by false d = inr (replaced m n e f (λ same. true≢false (sym ((Decides-eqb m n).1 same) ∙ d)))

    -- an edit leaves the mark, or changed the meaning of the name
    pub edit_mark : (mark_of k r ≡ mark_of h r) ⊎ ChangedMark
    edit_mark = by_numbers (number_at h.stamps r.name) (number_at k.stamps r.name) refl refl

module _ (h k : Holdings) (rs : Records) (before : AreNumbered h) (after : AreNumbered k) (once : MeansOnce h.modules) (known : AreKnown h rs) where
  -- the records of an edited library are known
  pub edit_known : IsStamped h k → h.used ≤ k.used → AreKnown k rs
  edit_known stamped grows id r e = known_after h k before after stamped grows r (known id r e) once

  -- the marks after an edit
  pub edit_remarks : (step : Step) → ((i events : ℕ) (m : Mark) → IsLeft step i events m m) → IsStamped h k → h.used ≤ k.used → UpdatesMarks (world_of h rs) (marks_of h rs) step (world_of k rs) (marks_of k rs)
  edit_remarks step left stamped grows = record {
    unopened = λ id e. ap (mark_at k) (none_seen h rs id e);
    opened = λ id c e. by id c (record_seen h rs id c e);
  }
    where
      by : (id : ℕ) (c : Conversation) → ((r : Recorded) × (record_at rs id ≡ Some r) × (conversation_of r ≡ c))
          → IsLeft step id (length c.log) (marks_of h rs id) (marks_of k rs id) ⊎ ((kind : ChangeKind) × Changes h.modules k.modules kind c.name × IsReset (marks_of k rs id))
      by id c q =
          let at_h : marks_of h rs id ≡ mark_of h q.0 = ap (mark_at h) q.1 in
          let at_k : marks_of k rs id ≡ mark_of k q.0 = ap (mark_at k) q.1 in
          elim (edit_mark h k before after stamped grows q.0 (known id q.0 q.1)) [
            | inl same ↦ inl (subst (IsLeft step id (length c.log) (marks_of h rs id)) (at_h ∙ sym same ∙ sym at_k) (left id (length c.log) (marks_of h rs id)))
            | inr x ↦ inr (x.0, subst (λ (d : Conversation). Changes h.modules k.modules x.0 d.name) q.2 x.1, subst IsReset (sym at_k) x.2)
          ]

left_by_put : (text : List ℕ) (i events : ℕ) (m : Mark) → IsLeft (Put text) i events m m
left_by_put text i events m = refl

left_by_withdraw : (name : List (List ℕ)) (i events : ℕ) (m : Mark) → IsLeft (Withdraw name) i events m m
left_by_withdraw name i events m = refl

module _ (h k : Holdings) (rs : Records) (before : AreNumbered h) (after : AreNumbered k) (once : MeansOnce h.modules) (known : AreKnown h rs) where
  -- the library's answer to a put
  abbrev PutTells : List ℕ → EditChanges → Type 0
  PutTells text changes = (m : ModuleTree) × IsPut h.profile h.modules text m k.modules × (changes.module ≡ m.name) × IsChanges h.modules k.modules changes.list

  pub put_made : (text : List ℕ) (changes : EditChanges) → PutTells text changes → AreVersionsUsed h k changes.list → k.profile ≡ h.profile → Makes h rs (Put text) (reply.Edited edit.Put changes) k rs
  put_made text changes x versions profile =
      let grows : h.used ≤ k.used = omega (arith, versions.count) in
      record {
        answered = record {
          follows = ((x.0, x.1), record { list = changes.list; changes = x.3; count = versions.count; few = versions.few }, profile, refl);
          replies = (refl, (x.0, x.1.read, x.2), x.3);
          remarks = edit_remarks h k rs before after once known (Put text) (left_by_put text) versions.stamped grows;
        };
        due = tt;
        left = tt;
        known = edit_known h k rs before after once known versions.stamped grows;
      }

  pub withdraw_made : (name : List (List ℕ)) (changes : EditChanges) → IsWithdrawal h.profile h.modules name k.modules → changes.module ≡ name → IsChanges h.modules k.modules changes.list → AreVersionsUsed h k changes.list → k.used ≡ h.used → k.profile ≡ h.profile
      → Makes h rs (Withdraw name) (reply.Edited edit.Withdraw changes) k rs
  withdraw_made name changes x module_is exact versions used profile =
      let grows : h.used ≤ k.used = omega (arith, used) in
      record {
        answered = record {
          follows = (x, used, profile, refl);
          replies = (refl, module_is, exact);
          remarks = edit_remarks h k rs before after once known (Withdraw name) (left_by_withdraw name) versions.stamped grows;
        };
        due = tt;
        left = tt;
        known = edit_known h k rs before after once known versions.stamped grows;
      }

module _ (h : Holdings) (rs : Records) (numbered : AreNumbered h) (once : MeansOnce h.modules) (known : AreKnown h rs) where
  stays : (step : Step) (f : Refusal) (k : Holdings) → k ≡ h → Refuses (world_of h rs) step f → IsDue (world_of h rs) step (reply.Refused f) → Makes h rs step (reply.Refused f) k rs
  stays step f k e refuses due = subst (λ (x : Holdings). Makes h rs step (reply.Refused f) x rs) (sym e) (refused h rs numbered once known step f rs refuses due refl)

  put_refused : (text : List ℕ) (k : Holdings) (f : EditFault) → k ≡ h → PutFails h.profile h.modules h.used text f → Makes h rs (Put text) (reply.Refused (refusal_of f)) k rs
  put_refused text k (fault.Lex f) e x = stays (Put text) (refusal.Edit (fault.Lex f)) k e x tt
  put_refused text k (fault.Parse f) e x = stays (Put text) (refusal.Edit (fault.Parse f)) k e x tt
  put_refused text k fault.TooManyModules e x = stays (Put text) (refusal.Edit fault.TooManyModules) k e x tt
  put_refused text k (fault.ImportMissing m) e x = stays (Put text) (refusal.Edit (fault.ImportMissing m)) k e x tt
  put_refused text k fault.TooManyProtocols e x = stays (Put text) (refusal.Edit fault.TooManyProtocols) k e x tt
  put_refused text k (fault.Elaborate f) e x = stays (Put text) (refusal.Edit (fault.Elaborate f)) k e x tt
  put_refused text k (fault.Project u) e x = stays (Put text) (refusal.Edit (fault.Project u)) k e x tt
  put_refused text k fault.VersionsFull e x = stays (Put text) (refusal.Edit fault.VersionsFull) k e x tt
  put_refused text k fault.UnknownModule e x = absurd x
  put_refused text k (fault.StillImported by) e x = absurd x
  put_refused text k (fault.NeedsReception name) e x = absurd x
  put_refused text k fault.OutOfMemory e x = stays (Put text) refusal.OutOfMemory k e tt x

  withdraw_refused : (name : List (List ℕ)) (k : Holdings) (f : EditFault) → k ≡ h → WithdrawFails h.modules name f → Makes h rs (Withdraw name) (reply.Refused (refusal_of f)) k rs
  withdraw_refused name k (fault.Lex f) e x = absurd x
  withdraw_refused name k (fault.Parse f) e x = absurd x
  withdraw_refused name k fault.TooManyModules e x = absurd x
  withdraw_refused name k (fault.ImportMissing m) e x = absurd x
  withdraw_refused name k fault.TooManyProtocols e x = absurd x
  withdraw_refused name k (fault.Elaborate f) e x = absurd x
  withdraw_refused name k (fault.Project u) e x = absurd x
  withdraw_refused name k fault.VersionsFull e x = absurd x
  withdraw_refused name k (fault.NeedsReception other) e x = absurd x
  withdraw_refused name k fault.UnknownModule e x = stays (Withdraw name) (refusal.Edit fault.UnknownModule) k e x tt
  withdraw_refused name k (fault.StillImported by) e x = stays (Withdraw name) (refusal.Edit (fault.StillImported by)) k e x tt
  withdraw_refused name k fault.OutOfMemory e x = stays (Withdraw name) refusal.OutOfMemory k e tt x

  module _ (k : Holdings) (after : AreNumbered k) where
    pub put_answered : (text : List ℕ) (edited : Result EditChanges EditFault) → IfOk edited (λ changes. (m : ModuleTree) × IsPut h.profile h.modules text m k.modules × (changes.module ≡ m.name) × IsChanges h.modules k.modules changes.list)
        → IfOk edited (λ changes. AreVersionsUsed h k changes.list) → k.profile ≡ h.profile → IfErr edited (PutFails h.profile h.modules h.used text) → OnErr edited (k ≡ h) → Makes h rs (Put text) (edit_reply_of edit.Put edited) k rs
    put_answered text (Ok changes) ok versions profile fails err = put_made h k rs numbered after once known text changes ok versions profile
    put_answered text (Err f) ok versions profile fails err = put_refused text k f err fails

    pub withdraw_answered : (name : List (List ℕ)) (edited : Result EditChanges EditFault) → IfOk edited (λ changes. IsWithdrawal h.profile h.modules name k.modules × (changes.module ≡ name) × IsChanges h.modules k.modules changes.list × AreWithdrawn changes.list)
        → IfOk edited (λ changes. AreVersionsUsed h k changes.list × (k.used ≡ h.used)) → k.profile ≡ h.profile → IfErr edited (WithdrawFails h.modules name) → OnErr edited (k ≡ h) → Makes h rs (Withdraw name) (edit_reply_of edit.Withdraw edited) k rs
    withdraw_answered name (Ok changes) ok versions profile fails err = withdraw_made h k rs numbered after once known name changes ok.0 ok.1 ok.2 versions.0 versions.1 profile
    withdraw_answered name (Err f) ok versions profile fails err = withdraw_refused name k f err fails

-- the library's holdings with this profile
abbrev pub under : Profile → Holdings → Holdings
under p h = record { profile = p; modules = h.modules; stamps = h.stamps; used = h.used }

module _ (h : Holdings) (rs : Records) (numbered : AreNumbered h) (once : MeansOnce h.modules) (known : AreKnown h rs) where
  known_under : (p : Profile) → AreKnown (under p h) rs
  known_under p id r e = let k = known id r e in record { used = k.used; named = k.named; means = k.means }

  profile_made : (p : Profile) → AllProject p h.modules → Makes h rs (step.Profile p) (reply.Profiled p) (under p h) rs
  profile_made p projected = record {
    answered = record {
      follows = (projected, refl);
      replies = refl;
      remarks = record { unopened = λ id e. ap (mark_at h) (none_seen h rs id e); opened = λ id c e. inl refl };
    };
    due = tt;
    left = tt;
    known = known_under p;
  }

  profile_refused : (p : Profile) (k : Holdings) (f : EditFault) → k ≡ h → ProfileFails h.profile p h.modules f → Makes h rs (step.Profile p) (reply.Refused (refusal_of f)) k rs
  profile_refused p k (fault.Lex f) e x = absurd x
  profile_refused p k (fault.Parse f) e x = absurd x
  profile_refused p k fault.UnknownModule e x = absurd x
  profile_refused p k fault.TooManyModules e x = absurd x
  profile_refused p k (fault.StillImported by) e x = absurd x
  profile_refused p k (fault.ImportMissing m) e x = absurd x
  profile_refused p k fault.TooManyProtocols e x = absurd x
  profile_refused p k (fault.Elaborate f) e x = absurd x
  profile_refused p k (fault.Project u) e x = absurd x
  profile_refused p k fault.VersionsFull e x = absurd x
  profile_refused p k (fault.NeedsReception name) e x = stays h rs numbered once known (step.Profile p) (refusal.Edit (fault.NeedsReception name)) k e x tt
  profile_refused p k fault.OutOfMemory e x = stays h rs numbered once known (step.Profile p) refusal.OutOfMemory k e tt x

  -- a change of the profile leaves every mark
  pub profile_answered : (p : Profile) (k : Holdings) (changed : Result (Unit {0}) EditFault) → OnOk changed (k ≡ under p h) → OnOk changed (AllProject p h.modules) → IfErr changed (ProfileFails h.profile p h.modules) → OnErr changed (k ≡ h)
      → Makes h rs (step.Profile p) (profile_reply_of p changed) k rs
  profile_answered p k (Ok done) ok projected fails err =
      subst (λ (x : Holdings). Makes h rs (step.Profile p) (reply.Profiled p) x rs) (sym ok) (profile_made p projected)
  profile_answered p k (Err f) ok projected fails err = profile_refused p k f err fails
