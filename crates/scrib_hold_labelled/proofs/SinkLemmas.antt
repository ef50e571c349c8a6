-- The lines that a sink gathers.
use Rattle.std.specs.Prelude.{if◌then◌else◌, Vec}
use Rattle.std.specs.Global.{Global}
use Rattle.std.proofs.Common.{◌≡◌, ◌∙◌, ◌++◌, ℕ, List, [], ◌∷◌, length, Bool, true, false, nat_eq, Option, Some, None, refl, sym, ap, subst}
use Rattle.std.specs.List.{AllByRecursion}
use Rattle.std.specs.Map.{update}
use Rattle.scrib_script_reader.specs.declared.item.Item.{Item}
use Rattle.scrib_hold.specs.NumberedItems.{Numbered}
use Rattle.scrib_hold.specs.Sinks.{CarriesOut, GathersItem}
use Rattle.scrib_labelled.specs.LabelledEntries.{LabelledEntry}
use Rattle.scrib_hold_labelled.specs.declared.waiting_lines.KeptLines.{KeptLines}
use Rattle.scrib_hold_labelled.specs.declared.line_sink.LineSink.{LineSink}
use Rattle.scrib_hold_labelled.specs.Sinks.{CarriesLines, gathered_in}
use Rattle.scrib_hold_labelled.specs.Stages.{IsWritten}
use Rattle.scrib_hold_labelled.specs.WaitingLines.{AreOf, AreWithin, kept_at}
use Rattle.scrib_hold_labelled.specs.WrittenLines.{entry_at, entry_lines, lines_at}

-- nothing is kept behind the taking of what was not
taken_away : (b : Bool) (x : Option KeptLines) (kept : KeptLines) → (if b then None else x) ≡ Some kept → x ≡ Some kept
taken_away false x kept h = h
taken_away true x kept h = absurd (cc)

pub carries : (old new : LineSink) (n : ℕ) (kept : KeptLines) (bytes : List ℕ) (i : Item) → kept_at old.waiting n ≡ Some kept → ((k : ℕ) → kept_at new.waiting k ≡ update nat_eq (kept_at old.waiting) n None k)
    → bytes ≡ kept.lines.items → gathered_in new ≡ gathered_in old ++ bytes → GathersItem CarriesLines gathered_in old new n i
carries old new n kept bytes i found rest is grows = (
  bytes,
  record {
    written = λ objects entries within of. record { within = within n kept found; one_line = (of n kept found).1; lines = is ∙ (of n kept found).0 };
    fewer = λ k x q. taken_away _ _ x (sym (rest k) ∙ q);
  },
  grows,
)

-- ---- items one after another

-- no lines are kept that were not
abbrev pub AreFewer : (old new : LineSink) → Type 0
AreFewer old new = (m : ℕ) (kept : KeptLines) → kept_at new.waiting m ≡ Some kept → kept_at old.waiting m ≡ Some kept

pub fewer_lines : (items : List Numbered) (old new : LineSink) (out : List ℕ) → CarriesOut CarriesLines old new items out → AreFewer old new
fewer_lines [] old new out h m kept q = subst (λ s. kept_at s.waiting m ≡ Some kept) h.0 q
fewer_lines (x ∷ items) old new out h m kept q = h.3.fewer m kept (fewer_lines items h.0 new h.2 h.4 m kept q)

-- the lines of each are written
pub carries_all : (objects : Bool) (entries : List LabelledEntry) (items : List Numbered) (old new : LineSink) (out : List ℕ) → CarriesOut CarriesLines old new items out → AreWithin old.waiting (length entries)
    → AreOf old.waiting objects entries → (out ≡ lines_at objects entries items) × AllByRecursion (IsWritten entries) items
carries_all objects entries [] old new out h within of = (h.1, tt)
carries_all objects entries (x ∷ items) old new out h within of =
    let one = h.3.written objects entries within of in
    let rest = carries_all objects entries items h.0 new h.2 h.4 (λ n kept q. within n kept (h.3.fewer n kept q)) (λ n kept q. of n kept (h.3.fewer n kept q)) in (
      h.5 ∙ ap (λ (o : List ℕ). o ++ h.2) one.lines ∙ ap (λ (o : List ℕ). entry_lines objects (entry_at entries x.0) ++ o) rest.0,
      ((one.within, one.one_line), rest.1),
    )
