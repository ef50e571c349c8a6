-- The test behind a note: whether the conversation is complete then.
use Rattle.std.proofs.Common.{◌≡◌, ◌≢◌, inl, inr, ℕ, Bool, true, false, List, Option, Some, Result, Ok, Err, nat_eq, refl, sym, ap, subst, ◌∙◌}
use Rattle.std.specs.Prelude.{◌⊎◌, ◌↔◌, IfOk, IsTrue}
use Rattle.std.specs.Map.{set_value}
use Rattle.scrib_types.specs.declared.event.Event.{Event}
use Rattle.scrib_types.specs.declared.event.Told.{Told}
use Rattle.scrib_types.specs.declared.event.Told.TheVariants.{Stale, Judged}
use Rattle.scrib_record.specs.declared.version.Version.{Version}
use Rattle.scrib_record.specs.CompleteRecords.{IsCompleteRecord}
use Rattle.scrib_record.specs.Stale.{Recorded, IsLawful, is_stale}
use Rattle.scrib_record.specs.Told.{IsNoted, IsReported}
use Rattle.scrib_library.specs.Holdings.{Holdings, AreNumbered}
use Rattle.scrib_library.specs.Modules.{MeansOnce}
use Rattle.scrib_core.specs.declared.conversation_steps.Tested.{Tested}
use Rattle.scrib_core.specs.declared.reply.Refusal.{Refusal}
use Rattle.scrib_core.specs.Answers.{IsCompleteIn}
use Rattle.scrib_core.specs.Held.{AreKnown, Records, record_at, state}
use Rattle.scrib_core.specs.ConversationSteps.{IsCompleteTest, IsPresent}
use Rattle.scrib_core.proofs.CompleteLemmas.{complete_test}
use Rattle.scrib_core.proofs.ConversationLemmas.{at_itself}

module _ (h : Holdings) (rs : Records) (id : ℕ) (r : Recorded) (there : record_at rs id ≡ Some r) (lawful : IsLawful r) (present : Option Version) (here : IsPresent h r.name present) where
  -- why the test fails, of a record
  abbrev Fails : Recorded → Type 0
  Fails q = IsLawful q × ((IsCompleteRecord q → ⊥) ⊎ ((p : Option Version) × IsPresent h q.name p × (is_stale p q ≡ true)))

  failing : Fails r → IsCompleteTest h rs id false
  failing f q e =
      let both : Some r ≡ Some q = sym there ∙ e in
      let same : r ≡ q = cc in
      subst Fails same f

  test_of : (told : Told) → IsReported present r told → (test : Bool) → (test ≡ true → IsCompleteRecord r × (told ≢ Stale)) → (test ≡ false → (IsCompleteRecord r → ⊥) ⊎ (told ≡ Stale)) → IsCompleteTest h rs id test
  test_of Stale t true holds fails = absurd ((holds refl).1 refl)
  test_of Stale t false holds fails = failing (lawful, inr (present, here, t))
  test_of (Judged v) t true holds fails = (r, there, (holds refl).0, (present, here, t.0))
  test_of (Judged v) t false holds fails = failing (lawful, elim (fails refl) [ inl f ↦ inl f | inr s ↦ absurd (cc) ])

-- the test by the verdict on the record that notes the event
pub test_of_told : (h : Holdings) (old new : Records) (id : ℕ) (r after : Recorded) → record_at old id ≡ Some r → new ≡ set_value (nat_eq id) old after → (present : Option Version) → IsPresent h r.name present → (e : Event) (told : Told)
    → IsNoted present r e after told → IsLawful after → (test : Bool) → (test ≡ true → IsCompleteRecord after × (told ≢ Stale)) → (test ≡ false → (IsCompleteRecord after → ⊥) ⊎ (told ≡ Stale)) → IsCompleteTest h new id test
test_of_told h old new id r after there put present here e told noted lawful test holds fails =
    let at : record_at new id ≡ Some after = ap (λ (rs : Records). record_at rs id) put ∙ at_itself h old id r after there in
    let present_here : IsPresent h after.name present = subst (λ (n : List (List ℕ)). IsPresent h n present) (sym noted.name) here in
    test_of h new id after at lawful present present_here told noted.told test holds fails

-- the tests of records are tests of conversations
pub tests_complete : (h : Holdings) (rs : Records) (id : ℕ) → AreNumbered h → MeansOnce h.modules → AreKnown h rs → (r : Result Tested Refusal) → IfOk r (λ t. IsCompleteTest h rs id t.complete)
    → IfOk r (λ t. IsTrue t.complete ↔ IsCompleteIn (state h rs) id)
tests_complete h rs id numbered once known (Ok t) test = complete_test h rs id numbered once known t.complete test
tests_complete h rs id numbered once known (Err f) test = tt
