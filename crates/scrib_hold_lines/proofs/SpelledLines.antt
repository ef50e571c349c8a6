-- What lines spell, wherever they are written.
use Rattle.std.proofs.Common.{◌≡◌, ◌∙◌, ℕ, ◌+◌, List, [], ◌∷◌, ◌++◌, None, refl, sym, ap, subst}
use Rattle.std.proofs.lemmas.List.{append_assoc, append-nil}
use Rattle.scrib_core.specs.declared.format.Format.{Format}
use Rattle.scrib_core.specs.declared.step.Step.{Step}
use Rattle.scrib_script_reader.specs.declared.line.Line.TheVariants as line
use Rattle.scrib_script_reader.specs.declared.item.Item.{Item}
use Rattle.scrib_script_reader.specs.declared.item.Item.TheVariants as item
use Rattle.scrib_script_reader.specs.Says.{Says}
use Rattle.scrib_script_reader.specs.Scripts.{ends, makes, sweeps, is_bad, lines, bare}
use Rattle.scrib_script_reader.proofs.Bytes.{lines_lf}
use Rattle.scrib_hold_lines.specs.HeldLines.{SpellsButForNumbers}
use Rattle.scrib_hold_lines.specs.Lines.{SpellsAnew, WritesItems, WritesItemsPart, IsLineOf}
use Rattle.scrib_hold_lines.specs.Placement.{IsReaderEnded}

-- ---- lines one by one

-- a line with its LF is the first line
pub first_of : (text more : List ℕ) → IsReaderEnded text → lines (text ++ more) ≡ text ∷ lines more
first_of text more h =
    subst (λ (t : List ℕ). lines (t ++ more) ≡ t ∷ lines more) (sym h.2) (ap lines (append_assoc h.0 (10 ∷ []) more) ∙ lines_lf h.0 more h.1)

pub anew_none : SpellsAnew None [] []
anew_none = λ n. ([], ends n, refl)

pub anew_step : (l : List ℕ) (ls : List (List ℕ)) (items : List Item) (f : Format) (s : Step) → Says (bare l) (line.Step f s) → SpellsAnew None ls items → SpellsAnew None (l ∷ ls) (item.Step f s ∷ items)
anew_step l ls items f s says h = λ n. let p = h (n + 1) in (item.Step f s ∷ p.0, makes n l ls p.0 f s says p.1, ap (λ (x : List Item). item.Step f s ∷ x) p.2)

pub anew_sweep : (l : List ℕ) (ls : List (List ℕ)) (items : List Item) (f : Format) → Says (bare l) (line.Sweep f) → SpellsAnew None ls items → SpellsAnew None (l ∷ ls) (item.Sweep f ∷ items)
anew_sweep l ls items f says h = λ n. let p = h (n + 1) in (item.Sweep f ∷ p.0, sweeps n l ls p.0 f says p.1, ap (λ (x : List Item). item.Sweep f ∷ x) p.2)

pub anew_bad : (l : List ℕ) (ls : List (List ℕ)) (items : List Item) (k : ℕ) → Says (bare l) line.Bad → SpellsAnew None ls items → SpellsAnew None (l ∷ ls) (item.BadLine k ∷ items)
anew_bad l ls items k says h = λ n. let p = h (n + 1) in (item.BadLine n ∷ p.0, is_bad n l ls p.0 says p.1, ap (λ (x : List Item). item.BadLine 0 ∷ x) p.2)

-- ---- texts one after another

pub writes_none : WritesItems [] []
writes_none = record { so = λ more rest h. h }

pub writes_more : (a b : List ℕ) (xs ys : List Item) → WritesItems a xs → WritesItems b ys → WritesItems (a ++ b) (xs ++ ys)
writes_more a b xs ys p q = record {
  so = λ more rest h.
      subst (λ (t : List ℕ). SpellsAnew None (lines t) ((xs ++ ys) ++ rest)) (sym (append_assoc a b more))
      (subst (λ (l : List Item). SpellsAnew None (lines (a ++ (b ++ more))) l) (sym (append_assoc xs ys rest)) (p.so (b ++ more) (ys ++ rest) (q.so more rest h)));
}

pub writes_step : (text : List ℕ) (f : Format) (s : Step) → IsLineOf text (line.Step f s) → WritesItems text (item.Step f s ∷ [])
writes_step text f s h = record {
  so = λ more rest r.
      subst (λ (ls : List (List ℕ)). SpellsAnew None ls (item.Step f s ∷ rest)) (sym (first_of text more (h.front, h.no_lf, h.is))) (anew_step text (lines more) rest f s h.says r);
}

pub writes_sweep : (text : List ℕ) (f : Format) → IsLineOf text (line.Sweep f) → WritesItems text (item.Sweep f ∷ [])
writes_sweep text f h = record {
  so = λ more rest r.
      subst (λ (ls : List (List ℕ)). SpellsAnew None ls (item.Sweep f ∷ rest)) (sym (first_of text more (h.front, h.no_lf, h.is))) (anew_sweep text (lines more) rest f h.says r);
}

pub writes_bad : (text : List ℕ) (k : ℕ) → IsLineOf text line.Bad → WritesItems text (item.BadLine k ∷ [])
writes_bad text k h = record {
  so = λ more rest r.
      subst (λ (ls : List (List ℕ)). SpellsAnew None ls (item.BadLine k ∷ rest)) (sym (first_of text more (h.front, h.no_lf, h.is))) (anew_bad text (lines more) rest k h.says r);
}

-- ---- whole scripts

-- texts, and then the lines at the end of a script
pub spelled_with : (text last : List ℕ) (items more : List Item) → WritesItems text items → SpellsAnew None (lines last) more → SpellsButForNumbers (text ++ last) (items ++ more)
spelled_with text last items more w h = w.so last more h 1

pub spelled_whole : (text : List ℕ) (items : List Item) → WritesItems text items → SpellsButForNumbers text items
spelled_whole text items w =
    subst (λ (t : List ℕ). SpellsButForNumbers t items) (append-nil text)
    (subst (λ (l : List Item). SpellsButForNumbers (text ++ []) l) (append-nil items) (spelled_with text [] items [] w anew_none))

-- ---- texts in part

pub part_whole : (text : List ℕ) (items undone : List Item) → WritesItems text items → WritesItemsPart text (items ++ undone)
part_whole text items undone w = record {
  first = items;
  undone = undone;
  unwritten = [];
  is = refl;
  writes = subst (λ (t : List ℕ). WritesItems t items) (sym (append-nil text)) w;
}

pub part_none : (items : List Item) → WritesItemsPart [] items
part_none items = part_whole [] [] items writes_none

-- further items
pub part_more : (part : List ℕ) (items more : List Item) → WritesItemsPart part items → WritesItemsPart part (items ++ more)
part_more part items more p = record {
  first = p.first;
  undone = p.undone ++ more;
  unwritten = p.unwritten;
  is = ap (λ (l : List Item). l ++ more) p.is ∙ append_assoc p.first p.undone more;
  writes = p.writes;
}

-- a beginning of a text, and further items
pub part_cut : (part rest : List ℕ) (items undone : List Item) → WritesItems (part ++ rest) items → WritesItemsPart part (items ++ undone)
part_cut part rest items undone w = record { first = items; undone = undone; unwritten = rest; is = refl; writes = w }

-- a text, and a part of another
pub part_after : (a b : List ℕ) (xs ys : List Item) → WritesItems a xs → WritesItemsPart b ys → WritesItemsPart (a ++ b) (xs ++ ys)
part_after a b xs ys w p = record {
  first = xs ++ p.first;
  undone = p.undone;
  unwritten = p.unwritten;
  is = ap (λ (l : List Item). xs ++ l) p.is ∙ sym (append_assoc xs p.first p.undone);
  writes = subst (λ (t : List ℕ). WritesItems t (xs ++ p.first)) (sym (append_assoc a b p.unwritten)) (writes_more a (b ++ p.unwritten) xs p.first w p.writes);
}
