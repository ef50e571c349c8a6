-- Entries by their numbers, and what is written for them.
use Rattle.std.specs.Prelude.{if◌then◌else◌}
use Rattle.std.proofs.Common.{◌≡◌, ◌∙◌, ◌≤◌, ◌<◌, ◌+◌, ℕ, Bool, true, false, nat_eq, List, [], ◌∷◌, ◌++◌, length, arith, refl, sym, ap, subst}
use Rattle.std.specs.List.{AllByRecursion}
use Rattle.std.proofs.lemmas.List.{append-nil, append_assoc, length-append}
use Rattle.scrib_script_reader.specs.declared.entry.Entry.{Entry}
use Rattle.scrib_script_reader.specs.declared.item.Item.{Item}
use Rattle.scrib_script_reader.specs.Scripts.{NoLf}
use Rattle.scrib_hold.specs.NumberedItems.{Numbered}
use Rattle.scrib_labelled.specs.LabelledEntries.{LabelledEntry}
use Rattle.scrib_labelled.specs.LabelledLines.{LineLabel}
use Rattle.scrib_held_labels.specs.HeldRuns.{plain}
use Rattle.scrib_hold_labelled.specs.Stages.{EndsInOneLine, IsWritten}
use Rattle.scrib_hold_labelled.specs.WrittenLines.{end_in, end_line, end_lines, ends_in, entry_at, entry_from, entry_lines, item_in, items_at, lines_at}

last_from : (k : ℕ) (entries : List LabelledEntry) (e : LabelledEntry) → entry_from k (entries ++ e ∷ []) (k + length entries) ≡ e
last_from k [] e = grind arith
last_from k (x ∷ entries) e = let r = last_from (k + 1) entries e in grind arith

other_from : (k : ℕ) (entries : List LabelledEntry) (e : LabelledEntry) (n : ℕ) → n < k + length entries → entry_from k (entries ++ e ∷ []) n ≡ entry_from k entries n
other_from k [] e n h = grind arith
other_from k (x ∷ entries) e n h = let r = other_from (k + 1) entries e n in grind arith

-- the entry behind others
pub entry_last : (entries : List LabelledEntry) (e : LabelledEntry) (n : ℕ) → n ≡ length entries + 1 → entry_at (entries ++ e ∷ []) n ≡ e
entry_last entries e n is =
    let at : n ≡ 1 + length entries = omega arith in
    ap (entry_from 1 (entries ++ e ∷ [])) at ∙ last_from 1 entries e

-- other entries stay
pub entry_before : (entries : List LabelledEntry) (e : LabelledEntry) (n : ℕ) → n ≤ length entries → entry_at (entries ++ e ∷ []) n ≡ entry_at entries n
entry_before entries e n within = other_from 1 entries e n (omega arith)

chosen : (P : LabelledEntry → Type 0) (b : Bool) (x y : LabelledEntry) → P x → P y → P (if b then x else y)
chosen P true x y h k = h
chosen P false x y h k = k

-- what holds of each entry, and of one that is skipped, holds of that of a number
pub holds_from : (P : LabelledEntry → Type 0) (k : ℕ) (entries : List LabelledEntry) (n : ℕ) → P (entry_from 0 [] 0) → AllByRecursion P entries → P (entry_from k entries n)
holds_from P k [] n none h = none
holds_from P k (e ∷ entries) n none h = chosen P (nat_eq k n) e (entry_from (k + 1) entries n) h.0 (holds_from P (k + 1) entries n none h.1)

pub plain_last : (entries : List LabelledEntry) (x : LabelledEntry) → plain (entries ++ x ∷ []) ≡ plain entries ++ x.1 ∷ []
plain_last [] x = refl
plain_last (y ∷ entries) x = ap (λ es. y.1 ∷ es) (plain_last entries x)

-- ---- what is written

pub lines_append : (objects : Bool) (entries : List LabelledEntry) (xs ys : List Numbered) → lines_at objects entries (xs ++ ys) ≡ lines_at objects entries xs ++ lines_at objects entries ys
lines_append objects entries [] ys = refl
lines_append objects entries (x ∷ xs) ys =
    ap (λ (o : List ℕ). entry_lines objects (entry_at entries x.0) ++ o) (lines_append objects entries xs ys)
    ∙ sym (append_assoc (entry_lines objects (entry_at entries x.0)) (lines_at objects entries xs) (lines_at objects entries ys))

-- what is written stays behind one more entry
pub lines_before : (objects : Bool) (entries : List LabelledEntry) (e : LabelledEntry) (xs : List Numbered) → AllByRecursion (IsWritten entries) xs → lines_at objects (entries ++ e ∷ []) xs ≡ lines_at objects entries xs
lines_before objects entries e [] h = refl
lines_before objects entries e (x ∷ xs) h =
    ap (λ (y : LabelledEntry). entry_lines objects y ++ lines_at objects (entries ++ e ∷ []) xs) (entry_before entries e x.0 h.0.0)
    ∙ ap (λ (o : List ℕ). entry_lines objects (entry_at entries x.0) ++ o) (lines_before objects entries e xs h.1)

pub written_before : (entries : List LabelledEntry) (e : LabelledEntry) (xs : List Numbered) → AllByRecursion (IsWritten entries) xs → AllByRecursion (IsWritten (entries ++ e ∷ [])) xs
written_before entries e [] h = tt
written_before entries e (x ∷ xs) h = (
  (let longer = length-append entries (e ∷ []) in (let w = h.0.0 in omega arith), subst (λ (y : LabelledEntry). NoLf y.0.text) (sym (entry_before entries e x.0 h.0.0)) h.0.1),
  written_before entries e xs h.1,
)

-- the end inside a module text, behind one more entry
pub end_lines_last : (entries : List LabelledEntry) (e : LabelledEntry) → end_lines (entries ++ e ∷ []) ≡ end_lines entries ++ end_line e
end_lines_last [] e = append-nil (end_line e)
end_lines_last (x ∷ entries) e = ap (λ (o : List ℕ). end_line x ++ o) (end_lines_last entries e) ∙ sym (append_assoc (end_line x) (end_lines entries) (end_line e))

pub ends_last : (entries : List LabelledEntry) (e : LabelledEntry) → ends_in (entries ++ e ∷ []) ≡ ends_in entries ++ end_in e
ends_last [] e = append-nil (end_in e)
ends_last (x ∷ entries) e = ap (λ (o : List (LineLabel × Item)). end_in x ++ o) (ends_last entries e) ∙ sym (append_assoc (end_in x) (ends_in entries) (end_in e))

-- ---- all of some

pub all_append : {X : Type 0} (P : X → Type 0) (xs ys : List X) → AllByRecursion P xs → AllByRecursion P ys → AllByRecursion P (xs ++ ys)
all_append P [] ys h k = k
all_append P (x ∷ xs) ys h k = (h.0, all_append P xs ys h.1 k)

pub all_push : {X : Type 0} (P : X → Type 0) (xs : List X) (x : X) → AllByRecursion P xs → P x → AllByRecursion P (xs ++ x ∷ [])
all_push P xs x h k = all_append P xs (x ∷ []) h (k, tt)

pub all_front : {X : Type 0} (P : X → Type 0) (xs : List X) (x : X) → AllByRecursion P (xs ++ x ∷ []) → AllByRecursion P xs × P x
all_front P [] x h = (tt, h.0)
all_front P (y ∷ xs) x h = let r = all_front P xs x h.1 in ((h.0, r.0), r.1)
