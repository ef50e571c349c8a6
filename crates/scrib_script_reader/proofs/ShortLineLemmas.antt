-- Lines that are read without an item.
use Rattle.std.proofs.Common.{◌≡◌, ◌+◌, ◌∷◌, ◌++◌, [], ℕ, List, Option, Some, None, false, refl, sym, ap, subst}
use Rattle.std.specs.Option.{is_some}
use Rattle.scrib_core.specs.declared.format.Format.TheVariants as format
use Rattle.scrib_core.specs.declared.step.Step.TheVariants.{Note, Ask, Open}
use Rattle.scrib_script_reader.specs.declared.entry.Entry.TheVariants as entry
use Rattle.scrib_script_reader.specs.declared.item.Item.{Item}
use Rattle.scrib_script_reader.specs.declared.item.Item.TheVariants as item
use Rattle.scrib_script_reader.specs.declared.line.Line.TheVariants as line
use Rattle.scrib_script_reader.specs.declared.script.Script.{Script}
use Rattle.scrib_script_reader.specs.declared.short_line.ShortLine.{ShortLine}
use Rattle.scrib_script_reader.specs.declared.short_line.ShortLine.TheVariants as short
use Rattle.scrib_script_reader.specs.Scripts.{NoLf, bare}
use Rattle.scrib_script_reader.specs.Positions.{text_of, CountsBytes, TakesEntries, TakesFront, TakesFrontEntries}
use Rattle.scrib_script_reader.specs.Entries.{entry_items}
use Rattle.scrib_script_reader.specs.ShortLines.{short_entry, short_items}
use Rattle.scrib_script_reader.specs.PlainLines.{IsShort}
use Rattle.scrib_script_reader.proofs.ScriptLemmas.{passed, front_items}

pub is_none : {A : Type 0} (o : Option A) → false ≡ is_some o → o ≡ None
is_none None e = refl
is_none (Some x) e = cc

-- a short line that is whole in its piece
pub passed_short : (old new : Script) (k : List ℕ) (s : ShortLine) (l : List ℕ) → CountsBytes old new (k ++ 10 ∷ []) → text_of old ≡ None → old.line.items ≡ [] → NoLf k → l ≡ bare (k ++ 10 ∷ []) → IsShort l (old.lines + 1) s
    → text_of new ≡ None → new.line.items ≡ [] → new.lines ≡ old.lines + 1 → TakesEntries old new (k ++ 10 ∷ []) (short_entry s ∷ [])
passed_short old new k (short.Note id e) l counts outside empty no_lf l_is says text_is line_is lines_is =
    passed old new k (line.Step format.Line (Note id e)) (entry.Item (item.Step format.Line (Note id e)) ∷ []) l counts outside empty no_lf l_is says text_is refl line_is lines_is
passed_short old new k (short.Ask id) l counts outside empty no_lf l_is says text_is line_is lines_is =
    passed old new k (line.Step format.Line (Ask id)) (entry.Item (item.Step format.Line (Ask id)) ∷ []) l counts outside empty no_lf l_is says text_is refl line_is lines_is
passed_short old new k (short.Open id name) l counts outside empty no_lf l_is says text_is line_is lines_is =
    passed old new k (line.Step format.Line (Open id name)) (entry.Item (item.Step format.Line (Open id name)) ∷ []) l counts outside empty no_lf l_is says text_is refl line_is lines_is
passed_short old new k (short.Bad n) l counts outside empty no_lf l_is says text_is line_is lines_is =
    passed old new k line.Bad (entry.Item (item.BadLine n) ∷ []) l counts outside empty no_lf l_is says.1 text_is (ap (λ (m : ℕ). entry.Item (item.BadLine m) ∷ []) says.0) line_is lines_is
passed_short old new k short.Skipped l counts outside empty no_lf l_is says text_is line_is lines_is =
    passed old new k line.Skipped (entry.Skipped ∷ []) l counts outside empty no_lf l_is says text_is refl line_is lines_is

-- the items of its entry
pub short_spelled : (s : ShortLine) → short_items s ≡ entry_items (short_entry s ∷ [])
short_spelled (short.Note id e) = refl
short_spelled (short.Ask id) = refl
short_spelled (short.Open id name) = refl
short_spelled (short.Bad n) = refl
short_spelled short.Skipped = refl

pub front_short : (a b : Script) (piece rest : List ℕ) (s : ShortLine) → TakesFrontEntries a b piece rest (short_entry s ∷ []) → TakesFront a b piece rest (short_items s)
front_short a b piece rest s f = subst (λ (items : List Item). TakesFront a b piece rest items) (sym (short_spelled s)) (front_items a b piece rest (short_entry s ∷ []) f)
