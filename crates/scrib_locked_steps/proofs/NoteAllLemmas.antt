-- The replies to several notes in a record are those of its shard, which counts them.
use Rattle.std.proofs.Common.{◌≡◌, ◌∙◌, ◌+◌, ℕ, List, [], ◌∷◌, Bool, true, false, cond, Result, Ok, Err, Option, Some, nat_eq, refl, sym, ap, subst, arith}
use Rattle.std.specs.List.{sum_by}
use Rattle.std.specs.Map.{set_value}
use Rattle.std.proofs.lemmas.List.Sums.{sum_by-cons}
use Rattle.scrib_types.specs.declared.event.Event.{Event}
use Rattle.scrib_record.specs.declared.version.Version.{Version}
use Rattle.scrib_record.specs.Stale.{Recorded}
use Rattle.scrib_library.specs.Holdings.{Holdings}
use Rattle.scrib_core.specs.Held.{Records, record_at}
use Rattle.scrib_core.specs.ConversationSteps.{IsPresent}
use Rattle.scrib_locked_steps.specs.declared.pass_calls.PassRefusal.{PassRefusal}
use Rattle.scrib_core.specs.declared.conversation_steps.Noted.{Noted}
use Rattle.scrib_locked_steps.specs.Indexing.{Listing}
use Rattle.scrib_locked_steps.specs.Noting.{AnswersIn}
use Rattle.scrib_locked_steps.specs.OneByOne.{OneByOne}
use Rattle.scrib_locked_steps.specs.Passes.{PassHeld}
use Rattle.scrib_locked_steps.specs.Passing.{AnswersBy, added_notes}
use Rattle.scrib_locked_steps.specs.Shards.{IsShardStored}
use Rattle.scrib_locked_steps.proofs.ShardLemmas.{stored_same, pass_note_keeps}
use Rattle.scrib_locked_steps.proofs.Notes.{answered_there, same_after, same_state}
use Rattle.scrib_locked_steps.proofs.SweepLemmas.{at_itself}

-- the last write counts
set_twice : (rs : Records) (id : ℕ) (r s : Recorded) → set_value (nat_eq id) (set_value (nat_eq id) rs r) s ≡ set_value (nat_eq id) rs s
set_twice [] id r s = refl
set_twice ((k, x) ∷ rs) id r s = by (nat_eq id k) refl (set_twice rs id r s)
  where
    by : (b : Bool) → nat_eq id k ≡ b → set_value (nat_eq id) (set_value (nat_eq id) rs r) s ≡ set_value (nat_eq id) rs s
        → set_value (nat_eq id) (cond b ((k, r) ∷ rs) ((k, x) ∷ set_value (nat_eq id) rs r)) s ≡ cond b ((k, s) ∷ rs) ((k, x) ∷ set_value (nat_eq id) rs s)
    by true e rest = rw e refl
    by false e rest = rw e (ap (λ (l : Records). (k, x) ∷ l) rest)

pub all_answered_there : (h : Holdings) (present : Option Version) (rs : Records) (id : ℕ) (s t : Recorded × PassHeld) (es : List Event) (xs : List (Result Noted PassRefusal))
    → s.1.conversation ≡ id → record_at rs id ≡ Some s.0 → IsPresent h s.0.name present
    → OneByOne (AnswersIn present) s es xs t → OneByOne (AnswersBy h) (rs, s.1) es xs (set_value (nat_eq id) rs t.0, t.1)
all_answered_there h present rs id s t [] [] at there is same = same_state rs id s t there same
all_answered_there h present rs id s t [] (x ∷ xs) at there is all = absurd all
all_answered_there h present rs id s t (e ∷ es) [] at there is all = absurd all
all_answered_there h present rs id s t (e ∷ es) (x ∷ xs) at there is all =
    let u = all.0 in
    let after = same_after present s u e x all.1 in
    let written : Records = set_value (nat_eq id) rs u.0 in
    let rest : OneByOne (AnswersBy h) (written, u.1) es xs (set_value (nat_eq id) written t.0, t.1) =
    all_answered_there h present written id u t es xs (after.0 ∙ at) (at_itself rs id u.0 s.0 there)
    (subst (λ (n : List (List ℕ)). IsPresent h n present) (sym after.1) is) all.2 in (
      (written, u.1),
      answered_there h present rs id s u e x at there is all.1,
      subst (λ (l : Records). OneByOne (AnswersBy h) (written, u.1) es xs (l, t.1)) (set_twice rs id u.0 t.0) rest,
    )

-- ---- how many entries are added

pub one_keeps : (capacity : ℕ) (h : Holdings) (s t : Records × PassHeld) (e : Event) (x : Result Noted PassRefusal) (index : Listing) (book : ℕ) → AnswersBy h s e x t
    → IsShardStored capacity s.0 index book → IsShardStored capacity t.0 index (book + added_notes x)
one_keeps capacity h s t e (Ok n) index book x stored = pass_note_keeps capacity h s.0 s.1.conversation e (Ok n) t.0 index book x.1 tt stored
one_keeps capacity h s t e (Err f) index book x stored = pass_note_keeps capacity h s.0 s.1.conversation e (Err f) t.0 index book tt (ap (λ (w : Records × PassHeld). w.0) x.1) stored

pub all_keep : (capacity : ℕ) (h : Holdings) (s t : Records × PassHeld) (es : List Event) (xs : List (Result Noted PassRefusal)) (index : Listing) (book : ℕ) → OneByOne (AnswersBy h) s es xs t
    → IsShardStored capacity s.0 index book → IsShardStored capacity t.0 index (book + sum_by added_notes xs)
all_keep capacity h s t [] [] index book same stored =
    subst (IsShardStored capacity t.0 index) (omega arith) (stored_same capacity s.0 t.0 index book (ap (λ (w : Records × PassHeld). w.0) same) stored)
all_keep capacity h s t [] (x ∷ xs) index book all stored = absurd all
all_keep capacity h s t (e ∷ es) [] index book all stored = absurd all
all_keep capacity h s t (e ∷ es) (x ∷ xs) index book all stored =
    subst (IsShardStored capacity t.0 index) (omega (arith, sum_by-cons added_notes x xs))
    (all_keep capacity h all.0 t es xs index (book + added_notes x) all.2 (one_keeps capacity h s all.0 e x index book all.1 stored))
