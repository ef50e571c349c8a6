-- The tests of stamps.
use Rattle.std.proofs.Common.{◌≡◌, ◌↔◌, ◌==◌, Bool, true, Option, Some, None, IsTrue, refl, sym, ap}
use Rattle.std.specs.Option.{option_map}
use Rattle.std.specs.Str.{bytes_eq}
use Rattle.std.proofs.lemmas.Bool.{true≢false}
use Rattle.std.proofs.lemmas.Bool.Decides.{same_from_decides, Decides-and, Decides-eqb}
use Rattle.std.specs.Bool.{Decides}
use Rattle.scrib_types.specs.Agreement.{Agreement}
use Rattle.scrib_record.specs.declared.version.Version.{Version}
use Rattle.scrib_record.specs.Flat.{flat_form}
use Rattle.scrib_record.specs.Versions.{meaning_of, number_of, HaveSameStamp, AreOfOneStamp}
use Rattle.scrib_record.specs.Stale.{same_stamp, is_present}
use Rattle.scrib_record.proofs.FlatFormLemmas.{same_form}

-- the test of stamps decides whether they are equal
pub stamps_decided : (v w : Version) → Decides (same_stamp v w) (HaveSameStamp v w)
stamps_decided v w =
    let x = flat_form (meaning_of v) in
    let y = flat_form (meaning_of w) in
    Decides-and (number_of v == number_of w) (bytes_eq x y) (Decides-eqb (number_of v) (number_of w)) (same_form (bytes_eq x y) x y (meaning_of v) (meaning_of w) refl refl refl)

pub stamp_test : (r : Bool) (v w : Version) → (IsTrue r ↔ HaveSameStamp v w) → r ≡ same_stamp v w
stamp_test r v w h = same_from_decides r (same_stamp v w) h (stamps_decided v w)

-- so do their numbers, where equal numbers imply equal meanings
pub numbers_test : (v w : Version) → (number_of v ≡ number_of w → meaning_of v ≡ meaning_of w) → (number_of v == number_of w) ≡ same_stamp v w
numbers_test v w serves =
    let decides = Decides-eqb (number_of v) (number_of w) in
    same_from_decides (number_of v == number_of w) (same_stamp v w) (λ t. let e = decides.0 t in (e, serves e), λ s. decides.1 s.0) (stamps_decided v w)

pub present_itself : (o : Option Version) → is_present o o ≡ true
present_itself None = refl
present_itself (Some v) = (stamps_decided v v).1 (refl, refl)

-- the present version has the meaning of the held one
pub present_means : (o p : Option Version) → is_present o p ≡ true → option_map meaning_of o ≡ option_map meaning_of p
present_means None None h = refl
present_means None (Some w) h = absurd (true≢false (sym h))
present_means (Some v) None h = absurd (true≢false (sym h))
present_means (Some v) (Some w) h = let same = (stamps_decided v w).0 h in ap (λ (a : Agreement). Some a) same.1

-- the present version has the stamp of the held one
pub of_one_stamp : (o p : Option Version) → is_present o p ≡ true → AreOfOneStamp o p
of_one_stamp None None h = tt
of_one_stamp None (Some w) h = true≢false (sym h)
of_one_stamp (Some v) None h = true≢false (sym h)
of_one_stamp (Some v) (Some w) h = (stamps_decided v w).0 h
