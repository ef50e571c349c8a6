-- Where numbers serve to compare the held version with the present one.
use Rattle.std.proofs.Common.{◌≡◌, ◌&&◌, not, ℕ, Bool, true, false, List, Option, Some, None, option_map, length, refl, sym, subst}
use Rattle.std.specs.Borrow.{Bor}
use Rattle.std.specs.Option.{option_copied}
use Rattle.std.proofs.lemmas.Bool.{true≢false}
use Rattle.scrib_record.specs.declared.answer.Answer.{Answer}
use Rattle.scrib_record.specs.declared.answer.Answer.TheVariants as answer
use Rattle.scrib_record.specs.declared.comparison.Comparison.{Comparison}
use Rattle.scrib_record.specs.declared.comparison.Comparison.TheVariants.{Numbers}
use Rattle.scrib_record.specs.declared.version.Version.{Version}
use Rattle.scrib_record.specs.Comparisons.{ServesFor}
use Rattle.scrib_record.specs.Stale.{Recorded, is_stale, is_present, is_final}
use Rattle.scrib_record.specs.Told.{IsReportedAnswer}
use Rattle.scrib_record.specs.Versions.{AreOfOneStamp, meaning_of, number_of}
use Rattle.scrib_record.proofs.Stamps.{of_one_stamp}
use Rattle.scrib_library.specs.Holdings.{Holdings, IsNumber}
use Rattle.scrib_library.specs.Modules.{IsMeaning}
use Rattle.scrib_core.specs.ConversationSteps.{IsPresent}

-- versions of one stamp have one meaning
pub stamps_serve : (present held : Option Version) → AreOfOneStamp present held → ServesFor Numbers present held
stamps_serve None held s = tt
stamps_serve (Some v) None s = tt
stamps_serve (Some v) (Some w) s = λ same. s.1

-- a record that is not stale holds the present version
fresh_serves : (present : Option Version) (r : Recorded) → is_stale present r ≡ false → ServesFor Numbers present r.held
fresh_serves present r fresh =
    stamps_serve present r.held (of_one_stamp present r.held (by (is_present present r.held) (is_final r.verdict r.judged (length r.log)) fresh))
  where
    by : (p f : Bool) → not (p && f) ≡ false → p ≡ true
    by true f s = refl
    by false f s = absurd (true≢false s)

pub reported_serves : (present : Option Version) (r : Recorded) (a : Answer) → IsReportedAnswer present r a → (a ≡ answer.Stale → ⊥) → ServesFor Numbers present r.held
reported_serves present r answer.Stale x other = absurd (other refl)
reported_serves present r answer.Permitted x other = fresh_serves present r x.0
reported_serves present r (answer.Offence place role allowed) x other = fresh_serves present r x.0
reported_serves present r answer.Withdrawn x other = fresh_serves present r x.0

-- a record that holds the same version is served by the same comparison
pub serves_on : (c : Comparison) (present : Option Version) (old new : Recorded) → new.held ≡ old.held → ServesFor c present old.held → ServesFor c present new.held
serves_on c present old new same serves = subst (ServesFor c present) (sym same) serves

-- the version that a library returns for a name is the present one of that name, if it has one
pub present_copied : (h : Holdings) (name : List (List ℕ)) (o : Option (Bor Version)) → IsMeaning h.modules name (option_map (λ v. meaning_of v.now) o) → IsNumber h name (option_map (λ v. number_of v.now) o) → IsPresent h name (option_copied o)
present_copied h name None m n = record { meaning = m; number = n }
present_copied h name (Some v) m n = record { meaning = m; number = n }
