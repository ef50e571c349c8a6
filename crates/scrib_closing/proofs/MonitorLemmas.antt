-- What a monitor that closes complete conversations has taken, and where it fails.
use Rattle.std.proofs.Common.{◌≡◌, ℕ, List, [], ◌∷◌, ◌++◌, ◌∙◌, Option, Some, None, refl, sym, ap, subst}
use Rattle.std.proofs.lemmas.List.{append_assoc, append-nil}
use Rattle.std.proofs.lemmas.Option.{same_Some}
use Rattle.scrib_types.specs.declared.event.Event.{Event}
use Rattle.scrib_core.specs.Answers.{State, initial}
use Rattle.scrib_core.specs.Held.{state_of}
use Rattle.scrib_core.specs.declared.format.Format.{Format}
use Rattle.scrib_core.specs.declared.reply.Reply.{Reply}
use Rattle.scrib_script_reader.specs.declared.entry.Entry.{Entry}
use Rattle.scrib_script_reader.specs.declared.entry.Entry.TheVariants as entry
use Rattle.scrib_script_reader.specs.declared.item.Item.{Item}
use Rattle.scrib_script_reader.specs.declared.short_line.ShortLine.{ShortLine}
use Rattle.scrib_script_reader.specs.declared.short_line.ShortLine.TheVariants as short
use Rattle.scrib_script_reader.specs.Entries.{entry_items}
use Rattle.scrib_script_reader.specs.Scripts.{item_list}
use Rattle.scrib_script_reader.specs.ShortLines.{short_entry, short_items}
use Rattle.scrib_script_reader.proofs.PositionLemmas.{items_more}
use Rattle.scrib_script_reader.proofs.ShortLineLemmas.{short_spelled}
use Rattle.scrib_cli.specs.Progress.{IsShortCarriedOut, WasCarriedOut}
use Rattle.scrib_cli.specs.Scripts.{written}
use Rattle.scrib_cli.specs.declared.output_mode.OutputMode.TheVariants.{Printed}
use Rattle.scrib_closing.specs.declared.closing_monitor.ClosingMonitor.{ClosingMonitor}
use Rattle.scrib_closing.specs.ClosingScripts.{ClosesComplete}
use Rattle.scrib_closing.specs.Progress.{AreCarriedOut, AreCarriedInPart, IsBeginningOf, HasTaken, TakesEntry, FailsAtEntry}
use Rattle.scrib_closing.proofs.ClosingLemmas.{carried_none, carried_more, carried_item, begun_more, begun_after, begun_none, IsUnjudged}

-- a new monitor
pub taken_none : (o : Format) (m : ClosingMonitor) → m.format ≡ o → state_of m.core ≡ initial → HasTaken o m [] []
taken_none o m format core = record {
  format = format;
  carried = subst (λ (w : State). AreCarriedOut o [] initial w [] []) (sym core) (carried_none o initial []);
}

-- the output of items does not depend on what was gathered before
carried_behind : (o p : Format) (items : List Item) (w v : State) (a b before : List ℕ) → p ≡ o → (c : AreCarriedOut p items w v a b) → AreCarriedOut o items w v before (before ++ written p c.0 c.1)
carried_behind o p items w v a b before same c = (c.0, c.1, c.2, ap (λ (f : Format). before ++ written f c.0 c.1) same)

-- the items of one entry more
entry_more : (entries : List Entry) (e : Entry) → entry_items (entries ++ e ∷ []) ≡ entry_items entries ++ entry_items (e ∷ [])
entry_more entries e = items_more entries (e ∷ [])

pub took_items : (old new : ClosingMonitor) (e : Entry) → new.format ≡ old.format
    → AreCarriedOut old.format (entry_items (e ∷ [])) (state_of old.core) (state_of new.core) old.gathered.bytes.items new.gathered.bytes.items
    → TakesEntry old new e
took_items old new e format here = record {
  out = written old.format here.0 here.1;
  grows = here.3;
  after = λ o entries before c. record {
    format = format ∙ c.format;
    carried =
        subst (λ (l : List Item). AreCarriedOut o l initial (state_of new.core) [] (before ++ written old.format here.0 here.1)) (sym (entry_more entries e))
        (carried_more o (entry_items entries) (entry_items (e ∷ [])) initial (state_of old.core) (state_of new.core) [] before (before ++ written old.format here.0 here.1) c.carried
        (carried_behind o old.format (entry_items (e ∷ [])) (state_of old.core) (state_of new.core) old.gathered.bytes.items new.gathered.bytes.items before c.format here));
  };
}

-- a prefix does not depend on what was gathered before
begun_as : (o p : Format) (items : List Item) (w : State) (part : List ℕ) → p ≡ o → IsBeginningOf p items w part → IsBeginningOf o items w part
begun_as o p items w part same b = subst (λ (f : Format). IsBeginningOf f items w part) same b

pub failed_items : (old new : ClosingMonitor) (e : Entry)
    → AreCarriedInPart old.format (entry_items (e ∷ [])) (state_of old.core) old.gathered.bytes.items new.gathered.bytes.items
    → FailsAtEntry old new e
failed_items old new e part = record {
  out = part.0;
  grows = part.2;
  after = λ o entries before c.
      subst (λ (l : List Item). IsBeginningOf o l initial (before ++ part.0)) (sym (entry_more entries e))
      (begun_after o (entry_items entries) (entry_items (e ∷ [])) initial (state_of old.core) before part.0 c.carried (begun_as o old.format (entry_items (e ∷ [])) (state_of old.core) part.0 c.format part.1));
}

-- an entry without an item
pub took_nothing : (old : ClosingMonitor) → TakesEntry old old entry.Skipped
took_nothing old = took_items old old entry.Skipped refl (carried_none old.format (state_of old.core) old.gathered.bytes.items)

-- ---- a line that is read without an entry

-- each item of the line notes no event, and makes no turn
abbrev pub AreUnjudged : List Item → Type 0
AreUnjudged [] = Unit {0}
AreUnjudged (i ∷ items) = IsUnjudged i × AreUnjudged items

-- a line that is no note
pub unjudged_line : (line : ShortLine) → ((id : ℕ) (e : Event) → line ≡ short.Note id e → ⊥) → AreUnjudged (short_items line)
unjudged_line (short.Note id e) other = absurd (other id e refl)
unjudged_line (short.Ask id) other = (refl, tt)
unjudged_line (short.Open id name) other = (refl, tt)
unjudged_line (short.Bad n) other = (tt, tt)
unjudged_line short.Skipped other = tt

found_carried : (o : Format) (found : Option Item) (w v : State) (a b : List ℕ) → AreUnjudged (item_list found) → WasCarriedOut (Printed o) found w v (Some a) (Some b) → AreCarriedOut o (item_list found) w v a b
found_carried o None w v a b none d =
    let same : b ≡ a = same_Some b a d.1 in
    subst (λ (u : State). AreCarriedOut o [] w u a b) (sym d.0) (subst (λ (t : List ℕ). AreCarriedOut o [] w w a t) (sym same) (carried_none o w a))
found_carried o (Some i) w v a b none d = carried_item o i w v a b none.0 d

pub took_line : (old new : ClosingMonitor) (line : ShortLine) → new.format ≡ old.format → AreUnjudged (short_items line)
    → IsShortCarriedOut (Printed old.format) line (state_of old.core) (state_of new.core) (Some old.gathered.bytes.items) (Some new.gathered.bytes.items) → TakesEntry old new (short_entry line)
took_line old new line format none d =
    let carried : AreCarriedOut old.format (item_list d.0) (state_of old.core) (state_of new.core) old.gathered.bytes.items new.gathered.bytes.items =
    found_carried old.format d.0 (state_of old.core) (state_of new.core) old.gathered.bytes.items new.gathered.bytes.items (subst AreUnjudged (sym d.1) none) d.2 in
    took_items old new (short_entry line) format
    (subst (λ (l : List Item). AreCarriedOut old.format l (state_of old.core) (state_of new.core) old.gathered.bytes.items new.gathered.bytes.items) (d.1 ∙ short_spelled line) carried)

-- what a monitor has given is a prefix of what may be written for its entries
pub begun : (o : Format) (m : ClosingMonitor) (entries : List Entry) (out : List ℕ) → HasTaken o m entries out → IsBeginningOf o (entry_items entries) initial out
begun o m entries out c = (c.carried.0, c.carried.1, state_of m.core, [], c.carried.2, sym c.carried.3 ∙ sym (append-nil out))
