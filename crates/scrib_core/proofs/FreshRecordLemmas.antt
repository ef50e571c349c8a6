-- Records whose verdict is not stale, read off the present version of their protocol.
use Rattle.std.proofs.Common.{◌≡◌, ℕ, Bool, true, false, not, length, Option, Some, None, refl, subst}
use Rattle.std.specs.Borrow.{Bor}
use Rattle.std.proofs.lemmas.Bool.{and_parts, true≢false}
use Rattle.scrib_types.specs.Agreement.{Agreement}
use Rattle.scrib_types.specs.Judgement.{Judges}
use Rattle.scrib_record.specs.Stale.{Recorded, is_present, is_final}
use Rattle.scrib_record.proofs.Stamps.{present_means}
use Rattle.scrib_library.specs.Holdings.{Holdings, AreNumbered}
use Rattle.scrib_library.specs.Modules.{IsMeaning, MeansOnce}
use Rattle.scrib_core.specs.Marks.{IsStale}
use Rattle.scrib_core.specs.Held.{Records, record_at, mark_of, AreKnown}
use Rattle.scrib_core.specs.FreshRecords.{IsFreshRecord, IsUnstale, IsOutdated, FindsUnstale, FindsFreshRecord}
use Rattle.scrib_core.proofs.MarkLemmas.{fresh_mark, stale_mark}

shown : (b : Bool) → not b ≡ false → b ≡ true
shown true e = refl
shown false e = absurd (true≢false e)

module _ (h : Holdings) (rs : Records) (id : ℕ) (numbered : AreNumbered h) (once : MeansOnce h.modules) (known : AreKnown h rs) where
  fresh_record : (r : Recorded) → IsUnstale h rs id r → IsFreshRecord h rs id r
  fresh_record r u =
      let both = and_parts (is_present u.present r.held) (is_final r.verdict r.judged (length r.log)) (shown _ u.current) in
      let means = present_means u.present r.held both.0 in
      record {
        there = u.there;
        fresh = fresh_mark h r u.present numbered once (known id r u.there) u.is_present u.current;
        meaning = subst (IsMeaning h.modules r.name) means u.is_present.meaning;
        judges = subst (λ (o : Option Agreement). Judges o r.log r.verdict) means u.judges;
      }

  stale_record : (r : Recorded) → record_at rs id ≡ Some r → IsOutdated h r → IsStale (mark_of h r)
  stale_record r there o = stale_mark h r o.present numbered once (known id r there) o.is_present o.lawful o.outdated

  -- the record that is found is that of a fresh verdict
  pub found_fresh : (found : Option (Bor Recorded)) → FindsUnstale h rs id found → FindsFreshRecord (record { library = h; records = rs }) id found
  found_fresh None f = λ r there. stale_record r there (f r there)
  found_fresh (Some r) u = fresh_record r.now u
