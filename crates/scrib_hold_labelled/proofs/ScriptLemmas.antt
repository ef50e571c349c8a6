-- The script that a stage writes.
use Rattle.std.proofs.Common.{◌≡◌, ◌∙◌, ℕ, List, [], ◌∷◌, ◌++◌, Option, Some, None, refl, sym, ap, subst}
use Rattle.std.specs.List.{AllByRecursion}
use Rattle.std.proofs.lemmas.List.{append-nil}
use Rattle.scrib_script_reader.specs.declared.entry.Entry.TheVariants as entry
use Rattle.scrib_script_reader.specs.declared.item.Item.{Item}
use Rattle.scrib_script_reader.specs.declared.item.Item.TheVariants as item
use Rattle.scrib_hold_stage.specs.declared.stage.Counts.{Counts}
use Rattle.scrib_hold.specs.NumberedItems.{Numbered}
use Rattle.scrib_labelled.specs.declared.label_options.LabelOptions.{LabelOptions}
use Rattle.scrib_labelled.specs.LabelledEntries.{LabelledEntry, SpellsLabelledEntries, all_entries}
use Rattle.scrib_labelled.specs.LabelledLines.{LineLabel}
use Rattle.scrib_labelled.specs.LabelledScripts.{LabelledText}
use Rattle.scrib_hold_labelled.specs.HeldLabelledScripts.{IsBeginningOfScript, IsHeldScriptOf, SpellsButForNumbers}
use Rattle.scrib_hold_labelled.specs.Stages.{AreAllLines, ArePartOfLines, EndsInOneLine, IsWritten}
use Rattle.scrib_hold_labelled.specs.WrittenLines.{end_in, end_line, end_lines, ended, ends_in, items_at, lines_at}
use Rattle.scrib_hold_labelled.proofs.EntryLemmas.{all_front, end_lines_last, ends_last, holds_from}
use Rattle.scrib_hold_labelled.proofs.SaysLemmas.{TextSays, all_say, no_end, texts_say, unended_put}
use Rattle.scrib_hold_labelled.proofs.ShapeLemmas.{AreEndedBefore}
use Rattle.scrib_hold_labelled.proofs.SpellLemmas.{IsSpelled, spelled_entries, spelled_inside, spelled_none, spelled_whole}

-- the lines of these items of entries, with the end inside a module text behind them, spell the items
abbrev pub IsSpelledBy : LabelOptions → List LabelledEntry → List Numbered → Type 0
IsSpelledBy o entries xs = SpellsButForNumbers o (lines_at o.objects entries xs ++ end_lines entries) (items_at entries xs ++ ends_in entries)

-- with nothing behind them
with_nothing : (o : LabelOptions) (entries : List LabelledEntry) (xs : List Numbered) → end_lines entries ≡ [] → ends_in entries ≡ [] → SpellsButForNumbers o (lines_at o.objects entries xs) (items_at entries xs) → IsSpelledBy o entries xs
with_nothing o entries xs no_lines no_items h =
    let text : lines_at o.objects entries xs ≡ lines_at o.objects entries xs ++ end_lines entries = sym (append-nil (lines_at o.objects entries xs)) ∙ ap (λ (t : List ℕ). lines_at o.objects entries xs ++ t) (sym no_lines) in
    let items : items_at entries xs ≡ items_at entries xs ++ ends_in entries = sym (append-nil (items_at entries xs)) ∙ ap (λ (t : List (LineLabel × Item)). items_at entries xs ++ t) (sym no_items) in
    subst (λ (t : List ℕ). SpellsButForNumbers o t (items_at entries xs ++ ends_in entries)) text (subst (SpellsButForNumbers o (lines_at o.objects entries xs)) items h)

-- the entries of some first lines
pub first_spelled : (o : LabelOptions) (ls : List (List ℕ)) (n : ℕ) (t : Option LabelledText) (es : List LabelledEntry) (xs : List Numbered) → SpellsLabelledEntries o ls n t es → AreEndedBefore ls → AllByRecursion (IsWritten es) xs → IsSpelledBy o es xs
first_spelled o ls n t es xs s ended written =
    let none = no_end o ls n t es s in
    let says = texts_say o ls n t es s ended in
    with_nothing o es xs none.0 none.1 (spelled_whole o (lines_at o.objects es xs) (items_at es xs) (spelled_entries o es [] [] xs (λ k. holds_from (TextSays o) 1 es k tt says) written (spelled_none o)))

-- those of a whole script
pub all_spelled : (o : LabelOptions) (ls : List (List ℕ)) (n : ℕ) (t : Option LabelledText) (es : List LabelledEntry) (xs : List Numbered) → SpellsLabelledEntries o ls n t es → AreEndedBefore ls
    → AllByRecursion EndsInOneLine (all_entries t es) → AllByRecursion (IsWritten (all_entries t es)) xs → IsSpelledBy o (all_entries t es) xs
all_spelled o ls n None es xs s whole ends written = first_spelled o ls n None es xs s whole written
all_spelled o ls n (Some t) es xs s whole ends written =
    let last : LabelledEntry = (t.label, entry.Item item.EndOfText) in
    let none = no_end o ls n (Some t) es s in
    let put = unended_put o ls n (Some t) es s in
    let says = all_say o (Some t) es put (texts_say o ls n (Some t) es s whole) in
    let text : ended t.label.text ≡ end_lines (es ++ last ∷ []) = sym (end_lines_last es last ∙ ap (λ (o : List ℕ). o ++ end_line last) none.0) in
    let items : (t.label, item.EndOfText) ∷ [] ≡ ends_in (es ++ last ∷ []) = sym (ends_last es last ∙ ap (λ (o : List (LineLabel × Item)). o ++ end_in last) none.1) in
    subst (λ (x : List ℕ). SpellsButForNumbers o (lines_at o.objects (es ++ last ∷ []) xs ++ x) (items_at (es ++ last ∷ []) xs ++ ends_in (es ++ last ∷ []))) text
    (subst (λ (x : List (LineLabel × Item)). SpellsButForNumbers o (lines_at o.objects (es ++ last ∷ []) xs ++ ended t.label.text) (items_at (es ++ last ∷ []) xs ++ x)) items
    (spelled_inside o (lines_at o.objects (es ++ last ∷ []) xs) (items_at (es ++ last ∷ []) xs) t.label t.text.format put (all_front EndsInOneLine es last ends).1
    (spelled_entries o (es ++ last ∷ []) [] [] xs (λ k. holds_from (TextSays o) 1 (es ++ last ∷ []) k tt says) written (spelled_none o))))

pub script_of : (o : LabelOptions) (bound : ℕ) (ls : List (List ℕ)) (n : ℕ) (t : Option LabelledText) (es : List LabelledEntry) (counts : Counts) (out : List ℕ) → SpellsLabelledEntries o ls n t es → AreEndedBefore ls
    → AreAllLines o.objects bound (all_entries t es) counts out → IsHeldScriptOf o bound (all_entries t es) counts out
script_of o bound ls n t es counts out s whole a = record {
  numbered = a.numbered;
  names = a.names;
  named = a.named;
  last = a.last;
  all = a.all;
  spells = subst (λ (x : List ℕ). SpellsButForNumbers o x (items_at (all_entries t es) (a.numbered ++ a.last) ++ ends_in (all_entries t es))) (sym a.is) (all_spelled o ls n t es (a.numbered ++ a.last) s whole a.ends a.written);
}

-- a beginning, where the lines of the items are spelled by them
pub beginning_of : (o : LabelOptions) (bound : ℕ) (entries : List LabelledEntry) (part : List ℕ) → (p : ArePartOfLines o.objects bound entries part) → IsSpelledBy o entries (p.numbered ++ p.given) → IsBeginningOfScript o bound entries part
beginning_of o bound entries part p h = record {
  taken = p.taken;
  later = p.later;
  are = p.are;
  numbered = p.numbered;
  names = p.names;
  named = p.named;
  number = p.number;
  given = p.given;
  first = p.first;
  unwritten = p.rest;
  spells = subst (λ (x : List ℕ). SpellsButForNumbers o x (items_at entries (p.numbered ++ p.given) ++ ends_in entries)) p.begins h;
}
