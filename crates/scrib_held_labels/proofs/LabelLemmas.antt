-- The labels of entries by their numbers.
use Rattle.std.proofs.Common.{◌≡◌, ◌≤◌, ◌<◌, ◌+◌, ◌⊎◌, ℕ, Bool, List, [], ◌∷◌, ◌++◌, length, map, nat_eq, Option, Some, true, false, cond, arith, inl, inr, refl, sym, ap, eqb-true, ◌∙◌}
use Rattle.std.specs.Map.{update}
use Rattle.std.proofs.lemmas.List.{length-map}
use Rattle.scrib_script_reader.specs.declared.entry.Entry.{Entry}
use Rattle.scrib_hold.specs.HeldMonitors.{IsCount}
use Rattle.scrib_labelled.specs.LabelledEntries.{LabelledEntry}
use Rattle.scrib_labelled.specs.LabelledLines.{LineLabel}
use Rattle.scrib_held_labels.specs.declared.held_stage.HeldStage.{HeldStage}
use Rattle.scrib_held_labels.specs.declared.waiting_labels.KeptLabel.{KeptLabel}
use Rattle.scrib_held_labels.specs.HeldRuns.{labels_from, label_at}
use Rattle.scrib_held_labels.specs.Stages.{LabelsEntry}
use Rattle.scrib_held_labels.specs.WaitingLabels.{kept_at, label_kept, without_text}

-- the label behind others
pub last_from : (k : ℕ) (entries : List LabelledEntry) (e : LabelledEntry) → labels_from k (entries ++ e ∷ []) (k + length entries) ≡ e.0
last_from k [] e = grind arith
last_from k (x ∷ entries) e = let r = last_from (k + 1) entries e in grind arith

-- other labels stay
pub other_from : (k : ℕ) (entries : List LabelledEntry) (e : LabelledEntry) (n : ℕ) → n < k + length entries → labels_from k (entries ++ e ∷ []) n ≡ labels_from k entries n
other_from k [] e n h = grind arith
other_from k (x ∷ entries) e n h = let r = other_from (k + 1) entries e n in grind arith

label_last : (entries : List LabelledEntry) (e : LabelledEntry) (n : ℕ) → n ≡ length entries + 1 → label_at (entries ++ e ∷ []) n ≡ e.0
label_last entries e n is =
    let at : n ≡ 1 + length entries = omega arith in
    ap (labels_from 1 (entries ++ e ∷ [])) at ∙ last_from 1 entries e

label_before : (entries : List LabelledEntry) (e : LabelledEntry) (n : ℕ) → n ≤ length entries → label_at (entries ++ e ∷ []) n ≡ label_at entries n
label_before entries e n within = other_from 1 entries e n (omega arith)

-- ---- the label of the next entry

-- no label is kept of it
pub labels_none : (s : HeldStage) (label : LineLabel) (e : Entry) → LabelsEntry s s label e
labels_none s label e bound entries numbered taken within of = (
  λ n kept q. (let w = within n kept q in omega arith),
  λ n kept q. of n kept q ∙ ap without_text (sym (label_before entries (label, e) n (within n kept q))),
)

put_one : (b : Bool) (was now : Option KeptLabel) (put kept : KeptLabel) → now ≡ cond b (Some put) was → now ≡ Some kept → ((b ≡ true) × (put ≡ kept)) ⊎ (was ≡ Some kept)
put_one true was now put kept h q = inl (refl, cc)
put_one false was now put kept h q = inr (sym h ∙ q)

-- its label is kept under its number
pub labels_put : (old new : HeldStage) (label : LineLabel) (e : Entry) (count number : ℕ) (put : KeptLabel) → IsCount old.held count → number ≡ count + 1 → label_kept put ≡ without_text label
    → ((n : ℕ) → kept_at new.held.sink.waiting n ≡ update nat_eq (kept_at old.held.sink.waiting) number (Some put) n) → LabelsEntry old new label e
labels_put old new label e count number put counts next is h bound entries numbered taken within of =
    let counted : count ≡ length entries = counts bound (map (λ e. e.1) entries) numbered taken ∙ length-map entries (λ e. e.1) in
    let last : number ≡ length entries + 1 = omega arith in
    let each = λ (n : ℕ) (kept : KeptLabel) (q : kept_at new.held.sink.waiting n ≡ Some kept). put_one (nat_eq number n) (kept_at old.held.sink.waiting n) (kept_at new.held.sink.waiting n) put kept (h n) q in (
      λ n kept q. elim (each n kept q) [
        | inl here ↦ (let at : number ≡ n = eqb-true number n here.0 in omega arith)
        | inr before ↦ (let w = within n kept before in omega arith)
      ],
      λ n kept q. elim (each n kept q) [
        | inl here ↦ ap label_kept (sym here.1) ∙ is ∙ ap without_text (sym (label_last entries (label, e) n (sym (eqb-true number n here.0) ∙ last)))
        | inr before ↦ of n kept before ∙ ap without_text (sym (label_before entries (label, e) n (within n kept before)))
      ],
    )
