-- Whether a conversation is complete, read off its record.
use Rattle.std.proofs.Common.{◌≡◌, ◌↔◌, ◌==◌, ◌≤◌, ◌/◌, inl, inr, ℕ, Bool, true, false, not, if◌then◌else◌, IsTrue, List, length, take, drop, Option, Some, None, option_map, refl, sym, ap, subst, ◌∙◌, arith}
use Rattle.std.proofs.lemmas.Bool.{and_parts, true≢false, false≢true}
use Rattle.std.proofs.lemmas.Bool.Decides.{Decides-eqb, nat_tests}
use Rattle.std.proofs.lemmas.List.{take-append-drop}
use Rattle.scrib_types.specs.declared.event.Event.{Event}
use Rattle.scrib_types.specs.declared.event.Verdict.{Verdict}
use Rattle.scrib_types.specs.declared.event.Verdict.TheVariants.{Permitted, Offence, Withdrawn}
use Rattle.scrib_types.specs.Agreement.{Agreement}
use Rattle.scrib_types.specs.Complete.{IsComplete}
use Rattle.scrib_types.specs.Judgement.{Judges}
use Rattle.scrib_types.specs.Permitted.{IsPermitted}
use Rattle.scrib_global.proofs.JudgementLemmas.{permitted_front}
use Rattle.scrib_record.specs.declared.version.Version.{Version}
use Rattle.scrib_record.specs.CompleteRecords.{IsCompleteRecord, IsCompleteUnder, IsCompleteWith}
use Rattle.scrib_record.specs.Stale.{Recorded, IsLawful, is_present, is_final}
use Rattle.scrib_record.specs.Versions.{meaning_of, number_of}
use Rattle.scrib_record.proofs.Stamps.{present_means}
use Rattle.scrib_library.specs.Holdings.{Holdings, HasNumber, AreNumbered}
use Rattle.scrib_library.specs.Modules.{Means, MeansOnce}
use Rattle.scrib_core.specs.World.{Conversation}
use Rattle.scrib_core.specs.Marks.{Fresh, Stale, IsStale}
use Rattle.scrib_core.specs.Answers.{IsCompleteIn}
use Rattle.scrib_core.specs.Held.{Records, conversation_of, number_at, mark, mark_of, mark_at, state, IsKnown, AreKnown}
use Rattle.scrib_core.specs.ConversationSteps.{IsCompleteTest}
use Rattle.scrib_core.proofs.ConversationLemmas.{seen, record_seen, complete_now}
use Rattle.scrib_core.proofs.MarkLemmas.{fresh_mark, stale_mark, number_there, number_absent}
use Rattle.scrib_core.proofs.Runs.{not_offending}

shown : (b : Bool) → not b ≡ false → b ≡ true
shown true e = refl
shown false e = absurd (true≢false e)

-- a mark that is fresh: the number and the count of judged events are those that are asked for
both_true : (b c : Bool) (t : ℕ) → (if b then (if c then Fresh else Stale t) else Stale 0) ≡ Fresh → (b ≡ true) × (c ≡ true)
both_true true true t e = (refl, refl)
both_true true false t e = cc
both_true false c t e = cc

-- a complete log is permitted throughout, so its verdict is that
under_version : (a : Agreement) (w : Version) (log : List Event) (judged : ℕ) (v : Verdict) → judged ≤ length log → is_final v judged (length log) ≡ true → Judges (Some (meaning_of w)) (take judged log) v
    → IsComplete (meaning_of w) log → IsCompleteWith (Some w) log v judged
under_version a w log judged Permitted within final j complete = (grind (arith, nat_tests, within, final), complete)
under_version a w log judged (Offence place role allowed) within final j complete =
    let m = meaning_of w in
    let front : IsPermitted m (take judged log) = permitted_front m (take judged log) (drop judged log) (subst (IsPermitted m) (sym (take-append-drop judged log)) complete.permitted) in
    absurd (not_offending m (take judged log) place role allowed j front)
under_version a w log judged Withdrawn within final j complete = absurd j

module _ (h : Holdings) (rs : Records) (id : ℕ) (numbered : AreNumbered h) (once : MeansOnce h.modules) (known : AreKnown h rs) where
  -- a record with a fresh mark, whose log is complete under the present meaning
  whole_record : (r : Recorded) → IsKnown h r → IsLawful r → mark_of h r ≡ Fresh → (a : Agreement) → Means h.modules r.name a → IsComplete a r.log → IsCompleteRecord r
  whole_record r known_here lawful fresh a means complete = by (number_at h.stamps r.name) refl r.held refl fresh
    where
      by : (n : Option ℕ) → number_at h.stamps r.name ≡ n → (o : Option Version) → r.held ≡ o → mark n (option_map number_of o) r.verdict r.judged (length r.log) ≡ Fresh → IsCompleteRecord r
      by None e o f m = let k = numbered.numbered r.name a means in absurd (number_absent h.stamps r.name k.0 e k.1)
      by (Some k) e None f m = cc
      by (Some k) e (Some w) f m =
          let both = both_true (k == number_of w) (is_final r.verdict r.judged (length r.log)) (r.judged / 256) m in
          let same : k ≡ number_of w = (Decides-eqb k (number_of w)).0 both.0 in
          let here : HasNumber h r.name (number_of w) = subst (HasNumber h r.name) same (number_there h.stamps r.name k e) in
          let meant : a ≡ meaning_of w = once r.name a (meaning_of w) means (known_here.means w f here) in
          let judges = subst (λ (o : Option Version). Judges (option_map meaning_of o) (take r.judged r.log) r.verdict) f lawful.judges in
          let whole = under_version a w r.log r.judged r.verdict lawful.within both.1 judges (subst (λ (x : Agreement). IsComplete x r.log) meant complete) in
          subst (λ (o : Option Version). IsCompleteWith o r.log r.verdict r.judged) (sym f) whole

  test_holds : IsCompleteTest h rs id true → IsCompleteIn (state h rs) id
  test_holds t =
      let r = t.0 in
      let present = t.3.0 in
      let both = and_parts (is_present present r.held) (is_final r.verdict r.judged (length r.log)) (shown _ t.3.2) in
      let under : IsCompleteUnder (option_map meaning_of present) r.log r.verdict = subst (λ (o : Option Agreement). IsCompleteUnder o r.log r.verdict) (sym (present_means present r.held both.0)) t.2.1 in
      let now = complete_now h.modules once (conversation_of r) (option_map meaning_of present) t.3.1.meaning r.verdict under in
      (ap (mark_at h) t.1 ∙ fresh_mark h r present numbered once (known id r t.1) t.3.1 t.3.2, (conversation_of r, seen h rs id (Some r) t.1, now.1))

  test_fails : IsCompleteTest h rs id false → IsCompleteIn (state h rs) id → ⊥
  test_fails t c =
      let q = record_seen h rs id c.1.0 c.1.1 in
      let r = q.0 in
      let k = t r q.1 in
      let fresh : mark_of h r ≡ Fresh = ap (mark_at h) (sym q.1) ∙ c.0 in
      let means : Means h.modules r.name c.1.2.0 = subst (λ (x : Conversation). Means h.modules x.name c.1.2.0) (sym q.2) c.1.2.1 in
      let complete : IsComplete c.1.2.0 r.log = subst (λ (x : Conversation). IsComplete c.1.2.0 x.log) (sym q.2) c.1.2.2 in
      elim k.1 [
        | inl other ↦ other (whole_record r (known id r q.1) k.0 fresh c.1.2.0 means complete)
        | inr s ↦ subst IsStale fresh (stale_mark h r s.0 numbered once (known id r q.1) s.1 k.0 s.2)
      ]

  -- the test holds exactly where the conversation is complete
  pub complete_test : (test : Bool) → IsCompleteTest h rs id test → IsTrue test ↔ IsCompleteIn (state h rs) id
  complete_test true t = (λ e. test_holds t, λ c. refl)
  complete_test false t = (λ e. absurd (false≢true e), λ c. absurd (test_fails t c))
