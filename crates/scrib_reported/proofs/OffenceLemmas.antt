-- The offences of records whose verdict is not stale.
use Rattle.std.proofs.Common.{◌≡◌, ℕ, ◌<◌, List, [], ◌∷◌, ◌++◌, length, take, Option, Some, None, inl, inr, refl, sym, ap, subst, ◌∙◌, arith, length-append, append_assoc}
use Rattle.std.specs.Option.{option_map}
use Rattle.std.proofs.Math.Seq.{take-append_seam}
use Rattle.std.proofs.lemmas.Bool.{cases_lt}
use Rattle.scrib_types.specs.declared.event.Action.{Action}
use Rattle.scrib_types.specs.declared.event.Event.{Event}
use Rattle.scrib_types.specs.declared.event.Told.TheVariants.{Judged}
use Rattle.scrib_types.specs.declared.event.Verdict.{Verdict}
use Rattle.scrib_types.specs.declared.event.Verdict.TheVariants.{Permitted, Offence, Withdrawn}
use Rattle.scrib_types.specs.Agreement.{Agreement}
use Rattle.scrib_types.specs.Judgement.{Judges, IsOffence}
use Rattle.scrib_types.specs.Permitted.{IsPermitted}
use Rattle.scrib_tree.specs.declared.tree.ModuleTree.{ModuleTree}
use Rattle.scrib_record.specs.declared.version.Version.{Version}
use Rattle.scrib_record.specs.Stale.{Recorded}
use Rattle.scrib_record.specs.Versions.{meaning_of}
use Rattle.scrib_library.specs.Modules.{IsMeaning}
use Rattle.scrib_library.proofs.MeaningLemmas.{means_once}
use Rattle.scrib_core.specs.World.{Conversation}
use Rattle.scrib_core.specs.Marks.{IsStale}
use Rattle.scrib_core.specs.Answers.{IsFresh, IsReportedIn}
use Rattle.scrib_core.specs.FreshRecords.{FindsFreshRecord, IsFreshRecord}
use Rattle.scrib_core.specs.Held.{Held, conversation_of, mark_at, state_of}
use Rattle.scrib_core.proofs.ConversationLemmas.{record_seen, seen}
use Rattle.scrib_core.proofs.Runs.{not_offending}
use Rattle.scrib_offences.specs.declared.explained_offence.ExplainedOffence.{ExplainedOffence}
use Rattle.scrib_offences.specs.ExplainedOffences.{ExplainsRecord, IsExplained, IsExplainedRecord}
use Rattle.scrib_reported.specs.FoundOffences.{IsOffenceIn}
use Rattle.scrib_reported.specs.Kept.{line_at}

same_some : {X : Type 0} (x y : X) → Some x ≡ Some y → x ≡ y
same_some x y e = cc

-- a verdict that is not stale has a record
pub has_record : (c : Held) (id : ℕ) (v : Verdict) → IsReportedIn (state_of c) id (Judged v) → FindsFreshRecord c id None → ⊥
has_record c id v reported none =
    let r = record_seen c.library c.records id reported.1.0 reported.1.1 in
    subst IsStale (ap (mark_at c.library) (sym r.1) ∙ reported.0) (none r.0 r.1)

-- an offence is no earlier than another one of its log
no_earlier : (a : Agreement) (log : List Event) (p q : ℕ) (r s : List ℕ) (x y : List Action) → IsOffence a log p r x → IsOffence a log q s y → p < q → ⊥
no_earlier a log p q r s x y hp hq lt =
    let front = hp.before ++ hp.event ∷ [] in
    let whole : log ≡ front ++ hp.after = hp.here ∙ sym (append_assoc hp.before (hp.event ∷ []) hp.after) in
    let size : p ≡ length front = omega (arith, hp.counted, length-append hp.before (hp.event ∷ [])) in
    let is : take p log ≡ front = ap (λ (n : ℕ). take n log) size ∙ ap (λ (l : List Event). take (length front) l) whole ∙ take-append_seam front hp.after in
    hp.offends (subst (IsPermitted a) is (hq.least p lt))

-- so a log has an offence at one place alone
one_place : (a : Agreement) (log : List Event) (p q : ℕ) (r s : List ℕ) (x y : List Action) → IsOffence a log p r x → IsOffence a log q s y → p ≡ q
one_place a log p q r s x y hp hq =
    elim (cases_lt p q) [
      | inl lt ↦ absurd (no_earlier a log p q r s x y hp hq lt)
      | inr ge ↦ elim (cases_lt q p) [
        | inl gt ↦ absurd (no_earlier a log q p s r y x hq hp gt)
        | inr le ↦ omega arith
      ]
    ]

-- each verdict on a log is an offence at one place, if one is
pub judged_offence : (ms : List ModuleTree) (name : List (List ℕ)) (log : List Event) (o p : Option Agreement) (v : Verdict) (place : ℕ) (role : List ℕ) (allowed : List Action) → IsMeaning ms name o → Judges o log v
    → IsMeaning ms name p → Judges p log (Offence place role allowed) → (by : List ℕ) × (other : List Action) × (v ≡ Offence place by other)
judged_offence ms name log o None v place role allowed m j n k = absurd k
judged_offence ms name log None (Some a) v place role allowed m j n k = absurd (m a n)
judged_offence ms name log (Some b) (Some a) Permitted place role allowed m j n k =
    absurd (not_offending a log place role allowed k (subst (λ (x : Agreement). IsPermitted x log) (means_once ms name b a m n) j))
judged_offence ms name log (Some b) (Some a) (Offence q by other) place role allowed m j n k =
    (by, other, ap (λ (x : ℕ). Offence x by other) (one_place a log q place by role other allowed (subst (λ (x : Agreement). IsOffence x log q by other) (means_once ms name b a m n) j) k))
judged_offence ms name log (Some b) (Some a) Withdrawn place role allowed m j n k = absurd j

same_offence_place : (p q : ℕ) (r s : List ℕ) (x y : List Action) (v : Verdict) → v ≡ Offence p r x → v ≡ Offence q s y → p ≡ q
same_offence_place p q r s x y v e f = cc

module _ (c : Held) (id : ℕ) (r : Recorded) (fresh : IsFreshRecord c.library c.records id r) (place : ℕ) (role : List ℕ) (allowed : List Action)
    (reported : IsReportedIn (state_of c) id (Judged (Offence place role allowed))) where
  same : reported.1.0 ≡ conversation_of r
  same = same_some reported.1.0 (conversation_of r) (sym reported.1.1 ∙ seen c.library c.records id (Some r) fresh.there)

  of_record : IsFresh c.library.modules (conversation_of r) (Offence place role allowed)
  of_record = subst (λ (x : Conversation). IsFresh c.library.modules x (Offence place role allowed)) same reported.1.2

  -- the verdict of the record is an offence there
  record_offends : (by : List ℕ) × (other : List Action) × (r.verdict ≡ Offence place by other)
  record_offends =
      judged_offence c.library.modules r.name r.log (option_map meaning_of r.held) of_record.0 r.verdict place role allowed fresh.meaning fresh.judges of_record.1 of_record.2

  -- so it is explained
  pub is_explained : ExplainsRecord r None → ⊥
  is_explained none = none place record_offends.0 record_offends.1 record_offends.2

  -- and its explanation is that of the conversation's offence
  pub offence_found : (lines : List ℕ) (o : ExplainedOffence) → IsExplainedRecord r o → (protocol : List (List ℕ)) → protocol ≡ r.name → (line : ℕ) → line ≡ line_at lines o.place
      → IsOffenceIn (state_of c) id lines place allowed protocol (record { explained = o; allowed = allowed; line = line })
  offence_found lines o e protocol named line at_line =
      let at : e.place ≡ place = same_offence_place e.place place e.role record_offends.0 e.allowed record_offends.1 r.verdict e.verdict record_offends.2 in
      record {
        of = conversation_of r;
        there = seen c.library c.records id (Some r) fresh.there;
        protocol_is = named;
        agreement = meaning_of e.version;
        means = subst (λ (h : Option Version). IsMeaning c.library.modules r.name (option_map meaning_of h)) e.held fresh.meaning;
        explained = subst (λ (p : ℕ). IsExplained (meaning_of e.version) r.log p o) at e.explained;
        allowed_are = refl;
        line_is = at_line ∙ ap (line_at lines) (e.explained.place_is ∙ at);
      }
