-- What a stage of lines has taken, and where it fails.
use Rattle.std.proofs.Common.{◌≡◌, ◌∙◌, ℕ, ◌+◌, Bool, true, false, cond, List, [], ◌∷◌, ◌++◌, None, map, length, inl, inr, refl, sym, ap, subst}
use Rattle.std.specs.List.{AllByRecursion}
use Rattle.std.proofs.lemmas.List.{append_assoc, append-nil}
use Rattle.scrib_script_reader.specs.declared.item.Item.{Item}
use Rattle.scrib_script_reader.specs.declared.entry.Entry.{Entry}
use Rattle.scrib_script_reader.specs.Scripts.{lines}
use Rattle.scrib_hold_stage.specs.declared.noted.Noted.{Noted}
use Rattle.scrib_hold_stage.specs.declared.stage.Counts.{Counts}
use Rattle.scrib_hold_stage.specs.Entries as stage
use Rattle.scrib_hold_stage.specs.Entries.{Closings, none_closed, noted_in}
use Rattle.scrib_hold_stage.specs.PendingClosings.{IsNotReady, closings_in}
use Rattle.scrib_hold_stage.specs.Stages as stages
use Rattle.scrib_hold_stage.specs.Stages.{HasStaged, IsRead, IsFinished}
use Rattle.scrib_hold.specs.HeldScripts.{Asked, Pending, event_in, staged, staged_from, item_of, closing_item, closing_at, passing, is_end_inside, ends_inside, end_item, nothing, AreHeldItems, AreLetOut}
use Rattle.scrib_hold.specs.NumberedItems.{Numbered, items_in, numbered_read, numbered_last}
use Rattle.scrib_hold.specs.LetOutSoFar.{LetsOutSoFar}
use Rattle.scrib_hold.proofs.EntryLemmas.{inside_more}
use Rattle.scrib_hold.proofs.NumberedLemmas.{more_read, more_last, are_held, are_let_out, let_out_further}
use Rattle.scrib_hold.proofs.LetOutLemmas.{so_far_none, so_far_next, so_far_same, so_far_let_out, read_further, held_at_end}
use Rattle.scrib_hold_lines.specs.declared.staging.Passing.{Passing}
use Rattle.scrib_hold_lines.specs.declared.held_lines.HeldLines.{HeldLines}
use Rattle.scrib_hold_lines.specs.HeldLines.{SpellsButForNumbers, IsHeldScriptOf, IsBeginningOfScript}
use Rattle.scrib_hold_lines.specs.Lines.{SpellsAnew, WritesItems, WritesItemsPart, EndsInside, GivesLine, AddsBytes}
use Rattle.scrib_hold_lines.specs.Progress.{IsPassing, IsTextOfEvent, IsPartOf, AreWritten, AreWrittenInPart, AreLinesAt, HasTakenLines, AreLinesBefore, ReadsLineEntry, LineReadFails, LinesEnd, LinesEndFails}
use Rattle.scrib_hold_lines.proofs.SpelledLines.{anew_none, writes_none, writes_more, spelled_with, spelled_whole, part_whole, part_none, part_more, part_after}
use Rattle.scrib_hold_lines.proofs.Passings.{writes_passing, part_passing}

-- a new stage
pub taken_none : (bound : ℕ) (m : HeldLines) → HasStaged event_in bound [] none_closed [] [] (stages.stage_state m.stage) → closings_in m.pending ≡ [] → m.ended_inside ≡ ends_inside [] → HasTakenLines bound m [] []
taken_none bound m after none inside = record {
  at = record { numbered = []; so_far = so_far_none bound (stages.stage_state m.stage) (closings_in m.pending) after none; inside = inside; written = writes_none };
  wait = subst (AllByRecursion (λ (c : Pending). IsNotReady c (stages.stage_state m.stage))) (sym none) tt;
}

-- ---- one entry more

-- where the next entry is known
pub at_next : (bound : ℕ) (m : HeldLines) (entries next : List Entry) (out : List ℕ) → AreLinesAt bound m entries [] out → AreLinesAt bound m entries next out
at_next bound m entries next out c = record {
  numbered = c.numbered;
  so_far = so_far_next bound (stages.stage_state m.stage) (closings_in m.pending) entries next c.numbered c.so_far;
  inside = c.inside;
  written = c.written;
}

-- the stage read the entry
module _ (old : HeldLines) (e : Entry) (after : stages.StageState Asked) (released : List (Noted Asked)) (pending : List Pending)
    (read : IsRead event_in (staged (old.stage.time + 1) e) (stages.stage_state old.stage) after [] released)
    (more_pending : pending ≡ closings_in old.pending ++ closing_at (old.stage.time + 1) e) where
  so_far_read : (bound : ℕ) (entries : List Entry) (before : List ℕ) → (b : AreLinesBefore bound old entries e before) → LetsOutSoFar bound after pending (entries ++ e ∷ []) [] (b.at.numbered ++ numbered_read (old.stage.time + 1) e released)
  so_far_read bound entries before b = read_further bound (stages.stage_state old.stage) after (closings_in old.pending) pending entries b.at.numbered e released b.at.so_far b.wait b.apart read more_pending

  pub read_entry : (new : HeldLines) (found : Passing) (l mid : List ℕ) → IsPassing e found → GivesLine l e → stages.stage_state new.stage ≡ after → closings_in new.pending ≡ pending
      → new.ended_inside ≡ cond old.ended_inside true (is_end_inside e) → AddsBytes (IsTextOfEvent found l) old.output.items mid → AreWritten (map item_of released) mid new.output.items
      → ReadsLineEntry old new e
  read_entry new found l mid p g stage_is pending_is inside first next =
      let out : WritesItems (first.0 ++ next.0) (passing e ++ map item_of released) =
      writes_more first.0 next.0 (passing e) (map item_of released) (writes_passing e found l first.0 p g first.2) next.2 in
      record {
        out = first.0 ++ next.0;
        grows = next.1 ∙ ap (λ (t : List ℕ). t ++ next.0) first.1 ∙ append_assoc old.output.items first.0 next.0;
        after = λ bound entries before b. record {
          numbered = b.at.numbered ++ numbered_read (old.stage.time + 1) e released;
          so_far = so_far_same bound after (stages.stage_state new.stage) pending (closings_in new.pending) (entries ++ e ∷ []) [] (b.at.numbered ++ numbered_read (old.stage.time + 1) e released) stage_is pending_is (so_far_read bound entries before b);
          inside = inside ∙ ap (λ (x : Bool). cond x true (is_end_inside e)) b.at.inside ∙ sym (inside_more entries e);
          written =
              subst (WritesItems (before ++ (first.0 ++ next.0))) (sym (more_read b.at.numbered (old.stage.time + 1) e released))
              (writes_more before (first.0 ++ next.0) (items_in b.at.numbered) (passing e ++ map item_of released) b.at.written out);
        };
      }

-- what was written of what is let out is a beginning
pub begins_with : (bound : ℕ) (first later : List Entry) (items more all : List Item) (before part : List ℕ) → WritesItems before items → all ≡ items ++ more → AreLetOut bound first later all
    → WritesItemsPart part more → IsBeginningOfScript bound (first ++ later) (before ++ part)
begins_with bound first later items more all before part w is out p =
    let whole = part_after before part items more w p in
    record {
      first = first;
      later = later;
      items = whole.first;
      undone = whole.undone;
      unwritten = whole.unwritten;
      entries_are = refl;
      let_out = subst (λ (l : List Item). AreLetOut bound first later l) (is ∙ whole.is) out;
      spells = spelled_whole ((before ++ part) ++ whole.unwritten) whole.first whole.writes;
    }

-- what a stage has given is a beginning for its entries and further ones
pub begun_at : (bound : ℕ) (m : HeldLines) (entries next later : List Entry) (out : List ℕ) → AreLinesAt bound m entries next out → IsBeginningOfScript bound (entries ++ (next ++ later)) out
begun_at bound m entries next later out c =
    subst (λ (t : List ℕ). IsBeginningOfScript bound (entries ++ (next ++ later)) t) (append-nil out)
    (begins_with bound entries (next ++ later) (items_in c.numbered) [] (items_in c.numbered) out [] c.written (sym (append-nil (items_in c.numbered)))
    (are_let_out bound entries (next ++ later) c.numbered (so_far_let_out bound (stages.stage_state m.stage) (closings_in m.pending) entries next later c.numbered c.so_far)) (part_none []))

pub begun : (bound : ℕ) (m : HeldLines) (entries later : List Entry) (out : List ℕ) → HasTakenLines bound m entries out → IsBeginningOfScript bound (entries ++ later) out
begun bound m entries later out c = begun_at bound m entries [] later out c.at

-- a beginning for some entries is one for more
pub begun_more : (bound : ℕ) (entries more : List Entry) (part : List ℕ) → IsBeginningOfScript bound entries part → IsBeginningOfScript bound (entries ++ more) part
begun_more bound entries more part b = record {
  first = b.first;
  later = b.later ++ more;
  items = b.items;
  undone = b.undone;
  unwritten = b.unwritten;
  entries_are = ap (λ (l : List Entry). l ++ more) b.entries_are ∙ append_assoc b.first b.later more;
  let_out = let_out_further bound b.first b.later more (b.items ++ b.undone) b.let_out;
  spells = b.spells;
}

-- less of it is one
pub begun_less : (bound : ℕ) (entries : List Entry) (whole part rest : List ℕ) → whole ≡ part ++ rest → IsBeginningOfScript bound entries whole → IsBeginningOfScript bound entries part
begun_less bound entries whole part rest is b = record {
  first = b.first;
  later = b.later;
  items = b.items;
  undone = b.undone;
  unwritten = rest ++ b.unwritten;
  entries_are = b.entries_are;
  let_out = b.let_out;
  spells = subst (λ (t : List ℕ). SpellsButForNumbers t b.items) (ap (λ (l : List ℕ). l ++ b.unwritten) is ∙ append_assoc part rest b.unwritten) b.spells;
}

-- the stage failed
pub unread : (old new : HeldLines) (e : Entry) → new.output.items ≡ old.output.items → LineReadFails old new e
unread old new e same = record {
  out = [];
  grows = same ∙ sym (append-nil old.output.items);
  after = λ bound entries before b. subst (λ (l : List ℕ). IsBeginningOfScript bound (entries ++ e ∷ []) l) (sym (append-nil before)) (begun_at bound old entries (e ∷ []) [] before b.at);
}

-- a text of the entry failed
module _ (old new : HeldLines) (e : Entry) (after : stages.StageState Asked) (released : List (Noted Asked)) (pending : List Pending)
    (read : IsRead event_in (staged (old.stage.time + 1) e) (stages.stage_state old.stage) after [] released)
    (more_pending : pending ≡ closings_in old.pending ++ closing_at (old.stage.time + 1) e) where
  failed_with : (out : List ℕ) → new.output.items ≡ old.output.items ++ out → WritesItemsPart out (passing e ++ map item_of released) → LineReadFails old new e
  failed_with out grows part = record {
    out = out;
    grows = grows;
    after = λ bound entries before b.
        let all = passing e ++ map item_of released in
        let numbered = b.at.numbered ++ numbered_read (old.stage.time + 1) e released in
        subst (λ (l : List Entry). IsBeginningOfScript bound l (before ++ out)) (append-nil (entries ++ e ∷ []))
        (begins_with bound (entries ++ e ∷ []) [] (items_in b.at.numbered) all (items_in numbered) before out b.at.written (more_read b.at.numbered (old.stage.time + 1) e released)
        (are_let_out bound (entries ++ e ∷ []) [] numbered (so_far_let_out bound after pending (entries ++ e ∷ []) [] [] numbered (so_far_read old e after released pending read more_pending bound entries before b))) part);
  }

  -- what passes at once failed
  pub failed_passing : (found : Passing) (l : List ℕ) → IsPassing e found → GivesLine l e → AddsBytes (IsPartOf found l) old.output.items new.output.items → LineReadFails old new e
  failed_passing found l p g part = failed_with part.0 part.1 (part_passing e found l part.0 (map item_of released) p g part.2)

  -- an event that was released failed
  pub failed_released : (found : Passing) (l mid : List ℕ) → IsPassing e found → GivesLine l e → AddsBytes (IsTextOfEvent found l) old.output.items mid → AreWrittenInPart (map item_of released) mid new.output.items → LineReadFails old new e
  failed_released found l mid p g first part =
      failed_with (first.0 ++ part.0) (part.1 ∙ ap (λ (t : List ℕ). t ++ part.0) first.1 ∙ append_assoc old.output.items first.0 part.0)
      (part_after first.0 part.0 (passing e) (map item_of released) (writes_passing e found l first.0 p g first.2) part.2)

-- ---- the end of the script

-- a module text that does not end, where the script ends inside one
pub end_added : (inside : Bool) (was now last : List ℕ) → EndsInside last → inside ≡ true → now ≡ was ++ last → AddsBytes (λ out. SpellsAnew None (lines out) (end_item inside)) was now
end_added inside was now last h ended is = subst (λ (b : Bool). AddsBytes (λ out. SpellsAnew None (lines out) (end_item b)) was now) (sym ended) (last, is, h)

pub end_absent : (inside : Bool) (was : List ℕ) → inside ≡ false → AddsBytes (λ out. SpellsAnew None (lines out) (end_item inside)) was was
end_absent inside was whole = subst (λ (b : Bool). AddsBytes (λ out. SpellsAnew None (lines out) (end_item b)) was was) (sym whole) ([], sym (append-nil was), anew_none)

module _ (old : HeldLines) (released : List (Noted Asked)) (finished : IsFinished event_in (stages.stage_state old.stage) [] released) where
  -- the items of the closings that wait
  abbrev close_items : List Item
  close_items = map closing_item (closings_in old.pending)

  -- the items behind those of the entries
  abbrev last_items : List Item
  last_items = map item_of released ++ (close_items ++ end_item old.ended_inside)

  items_at_end : (bound : ℕ) (entries : List Entry) (before : List ℕ) → (h : HasTakenLines bound old entries before) → AreHeldItems bound entries h.at.so_far.expired (items_in h.at.numbered ++ last_items)
  items_at_end bound entries before h =
      let numbered = h.at.numbered ++ numbered_last old.stage.time released (closings_in old.pending) old.ended_inside in
      subst (AreHeldItems bound entries h.at.so_far.expired) (more_last h.at.numbered old.stage.time released (closings_in old.pending) old.ended_inside)
      (are_held bound entries h.at.so_far.expired numbered
      (held_at_end bound (stages.stage_state old.stage) (closings_in old.pending) entries h.at.numbered released old.ended_inside h.at.so_far h.wait finished h.at.inside))

  pub ended : (new : HeldLines) (counts : Counts) (mid last : List ℕ)
      → ((bound : ℕ) (entries : List (stage.Entry Asked)) (closed : Closings) (earlier expired : List (Noted Asked)) → HasStaged event_in bound entries closed earlier expired (stages.stage_state old.stage)
      → (counts.events ≡ length (noted_in entries)) × (counts.expired ≡ length expired))
      → AreWritten (map item_of released) old.output.items mid → AreWritten close_items mid last → AddsBytes (λ out. SpellsAnew None (lines out) (end_item old.ended_inside)) last new.output.items
      → LinesEnd old new counts
  ended new counts mid last counted first next end = record {
    out = first.0 ++ (next.0 ++ end.0);
    grows =
        end.1 ∙ ap (λ (t : List ℕ). t ++ end.0) (next.1 ∙ ap (λ (t : List ℕ). t ++ next.0) first.1)
        ∙ append_assoc (old.output.items ++ first.0) next.0 end.0 ∙ append_assoc old.output.items first.0 (next.0 ++ end.0);
    after = λ bound entries before h.
        let c = h.at in
        let count = counted bound (staged_from 1 entries) c.so_far.closed c.so_far.released c.so_far.expired c.so_far.staged in
        let items = items_in c.numbered ++ map item_of released in
        let written : WritesItems ((before ++ first.0) ++ next.0) (items ++ close_items) = writes_more (before ++ first.0) next.0 items close_items (writes_more before first.0 (items_in c.numbered) (map item_of released) c.written first.2) next.2 in
        let whole : SpellsButForNumbers (((before ++ first.0) ++ next.0) ++ end.0) ((items ++ close_items) ++ end_item old.ended_inside) =
        spelled_with ((before ++ first.0) ++ next.0) end.0 (items ++ close_items) (end_item old.ended_inside) written end.2 in
        record {
          expired = c.so_far.expired;
          items = items_in c.numbered ++ last_items;
          held = items_at_end bound entries before h;
          events_counted = count.0;
          expired_counted = count.1;
          spells =
              subst (λ (l : List Item). SpellsButForNumbers (before ++ (first.0 ++ (next.0 ++ end.0))) l)
              (append_assoc items close_items (end_item old.ended_inside) ∙ append_assoc (items_in c.numbered) (map item_of released) (close_items ++ end_item old.ended_inside))
              (subst (λ (t : List ℕ). SpellsButForNumbers t ((items ++ close_items) ++ end_item old.ended_inside))
              (append_assoc (before ++ first.0) next.0 end.0 ∙ append_assoc before first.0 (next.0 ++ end.0)) whole);
        };
  }

  -- a text at the end failed
  failed_end : (new : HeldLines) (out : List ℕ) → new.output.items ≡ old.output.items ++ out → WritesItemsPart out last_items → LinesEndFails old new
  failed_end new out grows part = record {
    out = out;
    grows = grows;
    after = λ bound entries before h.
        let c = h.at in
        subst (λ (l : List Entry). IsBeginningOfScript bound l (before ++ out)) (append-nil entries)
        (begins_with bound entries [] (items_in c.numbered) last_items (items_in c.numbered ++ last_items) before out c.written refl (inr (c.so_far.expired, items_at_end bound entries before h)) part);
  }

  pub failed_last : (new : HeldLines) → AreWrittenInPart (map item_of released) old.output.items new.output.items → LinesEndFails old new
  failed_last new part = failed_end new part.0 part.1 (part_more part.0 (map item_of released) (close_items ++ end_item old.ended_inside) part.2)

  pub failed_closings : (new : HeldLines) (mid : List ℕ) → AreWritten (map item_of released) old.output.items mid → AreWrittenInPart close_items mid new.output.items → LinesEndFails old new
  failed_closings new mid first part =
      failed_end new (first.0 ++ part.0) (part.1 ∙ ap (λ (t : List ℕ). t ++ part.0) first.1 ∙ append_assoc old.output.items first.0 part.0)
      (part_after first.0 part.0 (map item_of released) (close_items ++ end_item old.ended_inside) first.2 (part_more part.0 close_items (end_item old.ended_inside) part.2))

  pub failed_text : (new : HeldLines) (mid last : List ℕ) → AreWritten (map item_of released) old.output.items mid → AreWritten close_items mid last → new.output.items ≡ last → LinesEndFails old new
  failed_text new mid last first next same =
      failed_end new (first.0 ++ next.0) (same ∙ next.1 ∙ ap (λ (t : List ℕ). t ++ next.0) first.1 ∙ append_assoc old.output.items first.0 next.0)
      (part_after first.0 next.0 (map item_of released) (close_items ++ end_item old.ended_inside) first.2 (part_whole next.0 close_items (end_item old.ended_inside) next.2))

-- the stage failed at the end
pub failed_unfinished : (old new : HeldLines) → new.output.items ≡ old.output.items → LinesEndFails old new
failed_unfinished old new same = record {
  out = [];
  grows = same ∙ sym (append-nil old.output.items);
  after = λ bound entries before c.
      subst (λ (l : List ℕ). IsBeginningOfScript bound entries l) (sym (append-nil before))
      (subst (λ (l : List Entry). IsBeginningOfScript bound l before) (append-nil entries) (begun bound old entries [] before c));
}

-- all of an output is a beginning of it
pub begun_whole : (bound : ℕ) (entries : List Entry) (counts : Counts) (output : List ℕ) → IsHeldScriptOf bound entries counts output → IsBeginningOfScript bound entries output
begun_whole bound entries counts output w = record {
  first = entries;
  later = [];
  items = w.items;
  undone = [];
  unwritten = [];
  entries_are = sym (append-nil entries);
  let_out = subst (λ (l : List Item). AreLetOut bound entries [] l) (sym (append-nil w.items)) (inr (w.expired, w.held));
  spells = subst (λ (t : List ℕ). SpellsButForNumbers t w.items) (sym (append-nil output)) w.spells;
}

-- nothing is a beginning of any output
pub begun_none : (bound : ℕ) (entries : List Entry) → IsBeginningOfScript bound entries []
begun_none bound entries = record {
  first = [];
  later = entries;
  items = [];
  undone = [];
  unwritten = [];
  entries_are = refl;
  let_out = inl (none_closed, [], [], [], nothing entries);
  spells = spelled_whole [] [] writes_none;
}
