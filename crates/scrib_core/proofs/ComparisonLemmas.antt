-- The comparison of versions is sound for each record.
use Rattle.std.proofs.Common.{◌≡◌, ℕ, List, Option, Some, None, refl, sym, subst, ◌∙◌}
use Rattle.std.specs.Option.{option_map}
use Rattle.scrib_record.specs.declared.comparison.Comparison.{Comparison}
use Rattle.scrib_record.specs.declared.comparison.Comparison.TheVariants.{Whole, Numbers}
use Rattle.scrib_record.specs.declared.version.Version.{Version}
use Rattle.scrib_record.specs.Comparisons.{ServesFor}
use Rattle.scrib_record.specs.Stale.{Recorded}
use Rattle.scrib_record.specs.Versions.{meaning_of, number_of}
use Rattle.scrib_library.specs.Holdings.{Holdings, HasNumber, IsStamp}
use Rattle.scrib_library.specs.Modules.{Means, MeansOnce}
use Rattle.scrib_core.specs.Held.{Records, record_at, IsKnown}
use Rattle.scrib_core.specs.ConversationSteps.{IsPresent, IsSoundComparison, IsSoundForRecord}

numbers_serve : (h : Holdings) (r : Recorded) (present held : Option Version) → MeansOnce h.modules → IsKnown h r → r.held ≡ held → IsPresent h r.name present → ServesFor Numbers present held
numbers_serve h r None held once known is here = tt
numbers_serve h r (Some v) None once known is here = tt
numbers_serve h r (Some v) (Some w) once known is here =
    λ same. once r.name (meaning_of v) (meaning_of w) here.meaning (known.means w is (subst (λ (k : ℕ). HasNumber h r.name k) same here.number))

-- so it is sound for the record that was found
pub serves_for : (c : Comparison) (h : Holdings) (rs : Records) (id : ℕ) (r : Recorded) (present : Option Version) → IsSoundComparison c h rs → record_at rs id ≡ Some r → IsPresent h r.name present → ServesFor c present r.held
serves_for Whole h rs id r present s there here = tt
serves_for Numbers h rs id r present s there here = numbers_serve h r present r.held s.1 (s.0 id r there) refl here

pub serves_record : (c : Comparison) (h : Holdings) (rs : Records) (id : ℕ) (r : Recorded) → IsSoundComparison c h rs → record_at rs id ≡ Some r → IsSoundForRecord c h r
serves_record Whole h rs id r s there = tt
serves_record Numbers h rs id r s there = s.0 id r there

-- if a stamp has the number that the record holds, it is of the record's name
pub held_present : (h : Holdings) (r : Recorded) (v : Version) (k : ℕ) → IsKnown h r → option_map number_of r.held ≡ Some k → number_of v ≡ k → IsStamp h (meaning_of v) (number_of v) → IsPresent h r.name (Some v)
held_present h r v k known held same s = by r.held refl held
  where
    by : (o : Option Version) → r.held ≡ o → option_map number_of o ≡ Some k → IsPresent h r.name (Some v)
    by None is e = absurd (cc)
    by (Some w) is e =
        let l : number_of w ≡ k = cc in
        let name : s.0 ≡ r.name = known.named w is s.0 (subst (HasNumber h s.0) (same ∙ sym l) s.1.number) in
        record {
          meaning = subst (λ (n : List (List ℕ)). Means h.modules n (meaning_of v)) name s.1.meaning;
          number = subst (λ (n : List (List ℕ)). HasNumber h n (number_of v)) name s.1.number;
        }
