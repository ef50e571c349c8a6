-- The numbers of openings after one more, and after one is taken out.
use Rattle.std.proofs.Common.{◌≡◌, ◌+◌, ℕ, Bool, true, false, cond, [], Option, Some, None, Result, Ok, Err, nat_eq, unwrap_or, sym, ap, subst}
use Rattle.std.specs.Prelude.{IsOk, OnOk}
use Rattle.std.proofs.lemmas.Bool.{true≢false}
use Rattle.indexmap.specs.IndexMap.{IndexMap, Updates}
use Rattle.scrib_core.specs.Held.{Records}
use Rattle.scrib_locked_steps.specs.Passes.{PassHeld}
use Rattle.scrib_locked_steps.specs.Shards.{ShardHeld}
use Rattle.scrib_locked_steps.specs.Openings.{is_current, records_for, IsNumbered, IsUnnumbered}
use Rattle.scrib_locked_steps.proofs.NameIndexLemmas.{other_number}

module _ {S : Type 0} (old new : IndexMap ℕ ℕ S) (id : ℕ) where
  -- an id got a number
  pub numbered : (opened number : ℕ) → number ≡ opened + 1 → Updates nat_eq old new id (Some number) → IsNumbered old.entries opened id new.entries number
  numbered opened number next u = record {
    counted = next;
    own = ap (λ (o : Option ℕ). unwrap_or o 0) u.1;
    others = λ i apart. ap (λ (o : Option ℕ). unwrap_or o 0) (u.2 i (other_number id i (λ same. apart (sym same))));
  }

  -- an id was taken out
  pub unnumbered : Updates nat_eq old new id None → IsUnnumbered old.entries id new.entries
  unnumbered u = record {
    own = ap (λ (o : Option ℕ). unwrap_or o 0) u.1;
    others = λ i apart. ap (λ (o : Option ℕ). unwrap_or o 0) (u.2 i (other_number id i (λ same. apart (sym same))));
  }

-- what a call that returned `Ok` ensures
pub when_ok : {T E P : Type 0} (r : Result T E) → IsOk r → OnOk r P → P
when_ok (Ok v) is p = p
when_ok (Err e) is p = absurd (true≢false (sym is))

pub ok_any : {T E P : Type 0} (r : Result T E) → P → OnOk r P
ok_any (Ok v) p = p
ok_any (Err e) p = tt

-- a pass of the present opening, and another one
pub for_current : (P : Records → Type 0) (s : ShardHeld) (p : PassHeld) → is_current s.openings p ≡ true → P s.records → P (records_for s p)
for_current P s p is x = subst (λ (b : Bool). P (cond b s.records [])) (sym is) x

pub for_past : (P : Records → Type 0) (s : ShardHeld) (p : PassHeld) → is_current s.openings p ≡ false → P [] → P (records_for s p)
for_past P s p is x = subst (λ (b : Bool). P (cond b s.records [])) (sym is) x
