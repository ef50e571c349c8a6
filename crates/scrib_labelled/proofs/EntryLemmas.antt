-- The items among the entries of a script with labels.
use Rattle.std.proofs.Common.{◌≡◌, ◌∙◌, ℕ, ◌+◌, List, [], ◌∷◌, ◌++◌, Option, Some, None, refl, sym, ap, subst}
use Rattle.std.proofs.lemmas.List.{append-nil, append_assoc}
use Rattle.scrib_script_reader.specs.declared.entry.Entry.TheVariants as entry
use Rattle.scrib_script_reader.specs.declared.item.Item.{Item}
use Rattle.scrib_script_reader.specs.declared.item.Item.TheVariants as item
use Rattle.scrib_labelled.specs.declared.label_options.LabelOptions.{LabelOptions}
use Rattle.scrib_labelled.specs.LabelledEntries as entries
use Rattle.scrib_labelled.specs.LabelledEntries.{LabelledEntry, SpellsLabelledEntries, all_entries, item_with, items_among}
use Rattle.scrib_labelled.specs.LabelledLines.{LineLabel}
use Rattle.scrib_labelled.specs.LabelledScripts.{LabelledText, SpellsLabelled, all_items, no_line, skips, makes, sweeps, is_bad, begins, goes_on, puts, puts_object}

-- the items among some entries and others
pub items_append : (es fs : List LabelledEntry) → items_among (es ++ fs) ≡ items_among es ++ items_among fs
items_append [] fs = refl
items_append (e ∷ es) fs =
    ap (λ (is : List (LineLabel × Item)). item_with e.0 e.1 ++ is) (items_append es fs) ∙ sym (append_assoc (item_with e.0 e.1) (items_among es) (items_among fs))

-- the items among some entries and one more
pub items_with_item : (es : List LabelledEntry) (label : LineLabel) (i : Item) → items_among (es ++ (label, entry.Item i) ∷ []) ≡ items_among es ++ (label, i) ∷ []
items_with_item es label i = items_append es ((label, entry.Item i) ∷ [])

pub items_with_skipped : (es : List LabelledEntry) (label : LineLabel) → items_among (es ++ (label, entry.Skipped) ∷ []) ≡ items_among es
items_with_skipped es label = items_append es ((label, entry.Skipped) ∷ []) ∙ append-nil (items_among es)

-- the items among the entries of lines are those that the lines spell
pub items_spelled : (o : LabelOptions) (ls : List (List ℕ)) (n : ℕ) (t : Option LabelledText) (es : List LabelledEntry) → SpellsLabelledEntries o ls n t es → SpellsLabelled o ls n t (items_among es)
items_spelled o _ _ _ _ entries.no_line = no_line
items_spelled o _ _ _ _ (entries.skips ls n es l label s says at) =
    subst (λ (is : List (LineLabel × Item)). SpellsLabelled o (ls ++ l ∷ []) (n + 1) None is) (sym (items_with_skipped es label))
    (skips ls n (items_among es) l label (items_spelled o ls n None es s) says at)
items_spelled o _ _ _ _ (entries.makes ls n es l label f s h says at) =
    subst (λ (is : List (LineLabel × Item)). SpellsLabelled o (ls ++ l ∷ []) (n + 1) None is) (sym (items_with_item es label (item.Step f s)))
    (makes ls n (items_among es) l label f s (items_spelled o ls n None es h) says at)
items_spelled o _ _ _ _ (entries.sweeps ls n es l label f s says at) =
    subst (λ (is : List (LineLabel × Item)). SpellsLabelled o (ls ++ l ∷ []) (n + 1) None is) (sym (items_with_item es label (item.Sweep f)))
    (sweeps ls n (items_among es) l label f (items_spelled o ls n None es s) says at)
items_spelled o _ _ _ _ (entries.is_bad ls n es l label s says at) =
    subst (λ (is : List (LineLabel × Item)). SpellsLabelled o (ls ++ l ∷ []) (n + 1) None is) (sym (items_with_item es label (item.BadLine n)))
    (is_bad ls n (items_among es) l label (items_spelled o ls n None es s) says at)
items_spelled o _ _ _ _ (entries.begins ls n es l label f s says at) = begins ls n (items_among es) l label f (items_spelled o ls n None es s) says at
items_spelled o _ _ _ _ (entries.goes_on ls n es l t s other) = goes_on ls n (items_among es) l t (items_spelled o ls n (Some t) es s) other
items_spelled o _ _ _ _ (entries.puts ls n es l t s ended) =
    subst (λ (is : List (LineLabel × Item)). SpellsLabelled o (ls ++ l ∷ []) (n + 1) None is) (sym (items_with_item es t.label _))
    (puts ls n (items_among es) l t (items_spelled o ls n (Some t) es s) ended)
items_spelled o _ _ _ _ (entries.puts_object ls n es l label f text s is at) =
    subst (λ (is : List (LineLabel × Item)). SpellsLabelled o (ls ++ l ∷ []) (n + 1) None is) (sym (items_with_item es label _))
    (puts_object ls n (items_among es) l label f text (items_spelled o ls n None es s) is at)

-- the same of a whole script
pub all_items_among : (t : Option LabelledText) (es : List LabelledEntry) → items_among (all_entries t es) ≡ all_items t (items_among es)
all_items_among None es = refl
all_items_among (Some t) es = items_with_item es t.label item.EndOfText
