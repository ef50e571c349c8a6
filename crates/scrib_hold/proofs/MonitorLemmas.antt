-- What a monitor behind a stage has taken, and where it fails.
use Rattle.std.proofs.Common.{◌≡◌, ◌∙◌, ℕ, ◌+◌, Bool, true, cond, List, [], ◌∷◌, ◌++◌, Option, Some, None, map, length, inl, inr, refl, sym, ap, subst, arith}
use Rattle.std.specs.List.{AllByRecursion}
use Rattle.std.proofs.lemmas.List.{append_assoc, append-nil}
use Rattle.scrib_script_reader.specs.declared.item.Item.{Item}
use Rattle.scrib_script_reader.specs.declared.entry.Entry.{Entry}
use Rattle.scrib_script_reader.specs.Scripts.{item_list}
use Rattle.scrib_hold_stage.specs.declared.conversation.Conversation.{Conversation}
use Rattle.scrib_hold_stage.specs.declared.noted.Noted.{Noted}
use Rattle.scrib_hold_stage.specs.declared.stage.Counts.{Counts}
use Rattle.scrib_hold_stage.specs.Entries as stage
use Rattle.scrib_hold_stage.specs.Entries.{Closings, none_closed, noted_in, opening_since}
use Rattle.scrib_hold_stage.specs.Conversations.{waiting_at}
use Rattle.scrib_hold_stage.specs.Changes.{conversation_at}
use Rattle.scrib_hold_stage.specs.PendingClosings.{IsApart, IsNotReady, closings_in}
use Rattle.scrib_hold_stage.specs.Stages as stages
use Rattle.scrib_hold_stage.specs.Stages.{AreHeld, HasStaged, IsRead, IsFinished, Waits, IsUnreleased, AreAllReleased}
use Rattle.scrib_hold_stage.proofs.HistoryLemmas.{unreleased, all_released}
use Rattle.scrib_hold.specs.declared.held_monitor.HeldMonitor.{HeldMonitor}
use Rattle.scrib_hold.specs.HeldScripts.{Asked, Pending, event_in, staged, staged_from, closing_at, passing, is_end_inside, ends_inside, end_item}
use Rattle.scrib_hold.specs.NumberedItems.{Numbered, numbered_at, numbered_event, numbered_closing, numbered_read, numbered_last, AreHeldNumbered, AreLetOutNumbered, AreFirstItems}
use Rattle.scrib_hold.specs.Sinks.{GathersItems, FailsWithin}
use Rattle.scrib_hold.specs.LetOutSoFar.{LetsOutSoFar}
use Rattle.scrib_hold.specs.HeldMonitors.{IsAt, HasTaken, IsCount, FailsAtEntry, Ends, EndFails, HasNoneLeft, HasNoneWaiting}
use Rattle.scrib_hold.specs.EntrySteps.{IsBefore, ReadsEntry, ReadFails}
use Rattle.scrib_hold.proofs.SinkLemmas.{behind_none}
use Rattle.scrib_hold.proofs.EntryLemmas.{length_staged, inside_more}
use Rattle.scrib_hold.proofs.LetOutLemmas.{so_far_none, so_far_next, so_far_same, so_far_let_out, read_further, held_at_end}

-- a new monitor
pub taken_none : {S : Type 0} (bound : ℕ) (m : HeldMonitor S) → HasStaged event_in bound [] none_closed [] [] (stages.stage_state m.stage) → closings_in m.pending ≡ [] → m.ended_inside ≡ ends_inside [] → HasTaken bound m [] []
taken_none bound m after none inside = record {
  at = record { so_far = so_far_none bound (stages.stage_state m.stage) (closings_in m.pending) after none; inside = inside };
  wait = subst (AllByRecursion (λ (c : Pending). IsNotReady c (stages.stage_state m.stage))) (sym none) tt;
}

-- the same monitor, over whatever sink
pub taken_over : {S : Type 0} (bound : ℕ) (m : HeldMonitor S) (s : S) (entries : List Entry) (numbered : List Numbered) → HasTaken bound m entries numbered → HasTaken bound (record m { sink = s }) entries numbered
taken_over bound m s entries numbered c = record { at = record { so_far = c.at.so_far; inside = c.at.inside }; wait = c.wait }

-- the stage counts the entries
pub count_is : {S : Type 0} (m : HeldMonitor S) (n : ℕ) → n ≡ m.stage.time → IsCount m n
count_is m n is bound entries numbered h = omega (arith, is, h.at.so_far.staged.kept.timed, length_staged 1 entries)

-- no event waits, and no closing
pub none_waits : {S : Type 0} (m : HeldMonitor S) (id : ℕ) → waiting_at (conversation_at (stages.stage_state m.stage).conversations id) ≡ [] → AllByRecursion (IsApart id) (closings_in m.pending) → HasNoneWaiting id m
none_waits m id none apart = (
  apart,
  λ bound entries numbered h. all_released event_in bound id (staged_from 1 entries) h.at.so_far.closed h.at.so_far.released h.at.so_far.expired (stages.stage_state m.stage) h.at.so_far.staged none,
)

unmet_unopened : (bound : ℕ) (opening : Option ℕ) (early arrivals given late : List (Noted Asked)) → AreHeld event_in bound opening early arrivals given late None → opening ≡ None
unmet_unopened bound None early arrivals given late h = refl
unmet_unopened bound (Some n) early arrivals given late h = absurd h.2

-- the conversation was not met, and no closing of it waits
pub none_left : {S : Type 0} (m : HeldMonitor S) (id : ℕ) → conversation_at (stages.stage_state m.stage).conversations id ≡ None → AllByRecursion (IsApart id) (closings_in m.pending) → HasNoneLeft id m
none_left m id none apart = (
  none_waits m id (ap waiting_at none) apart,
  λ bound entries numbered h.
      let held = h.at.so_far.staged.kept.held id in
      unmet_unopened bound (opening_since (h.at.so_far.closed id) id (staged_from 1 entries)) held.early held.arrivals held.given held.late
      (subst (λ (now : Option (Conversation Asked)). AreHeld event_in bound (opening_since (h.at.so_far.closed id) id (staged_from 1 entries)) held.early held.arrivals held.given held.late now) none held.held),
)

-- an event waits
pub event_waits : {S : Type 0} (m : HeldMonitor S) (id : ℕ) → Waits id (stages.stage_state m.stage) → (bound : ℕ) (entries : List Entry) (numbered : List Numbered) → (h : HasTaken bound m entries numbered)
    → IsUnreleased id (staged_from 1 entries) h.at.so_far.closed h.at.so_far.released
event_waits m id waits bound entries numbered h =
    unreleased event_in bound id (staged_from 1 entries) h.at.so_far.closed h.at.so_far.released h.at.so_far.expired (stages.stage_state m.stage) h.at.so_far.staged waits

-- where the next entry is known
pub at_next : {S : Type 0} (bound : ℕ) (m : HeldMonitor S) (entries next : List Entry) (numbered : List Numbered) → IsAt bound m entries [] numbered → IsAt bound m entries next numbered
at_next bound m entries next numbered c = record { so_far = so_far_next bound (stages.stage_state m.stage) (closings_in m.pending) entries next numbered c.so_far; inside = c.inside }

-- ---- first items

-- some of what is let out
pub begins_with : (bound : ℕ) (first later : List Entry) (before done undone all : List Numbered) → all ≡ before ++ (done ++ undone) → AreLetOutNumbered bound first later all → AreFirstItems bound (first ++ later) (before ++ done)
begins_with bound first later before done undone all is out = record {
  first = first;
  later = later;
  undone = undone;
  entries_are = refl;
  let_out = subst (AreLetOutNumbered bound first later) (is ∙ sym (append_assoc before done undone)) out;
}

-- what a monitor has let out
pub begun_at : {S : Type 0} (bound : ℕ) (m : HeldMonitor S) (entries next later : List Entry) (numbered : List Numbered) → IsAt bound m entries next numbered → AreFirstItems bound (entries ++ (next ++ later)) numbered
begun_at bound m entries next later numbered c = record {
  first = entries;
  later = next ++ later;
  undone = [];
  entries_are = refl;
  let_out =
      subst (AreLetOutNumbered bound entries (next ++ later)) (sym (append-nil numbered))
      (so_far_let_out bound (stages.stage_state m.stage) (closings_in m.pending) entries next later numbered c.so_far);
}

pub begun : {S : Type 0} (bound : ℕ) (m : HeldMonitor S) (entries later : List Entry) (numbered : List Numbered) → HasTaken bound m entries numbered → AreFirstItems bound (entries ++ later) numbered
begun bound m entries later numbered c = begun_at bound m entries [] later numbered c.at

module _ {S : Type 0} (carries : S → S → ℕ → Item → List ℕ → Type 0) (gathered : S → List ℕ) where
  -- ---- one entry more

  -- the stage read the entry
  module _ (old : HeldMonitor S) (e : Entry) (after : stages.StageState Asked) (released : List (Noted Asked)) (pending : List Pending)
      (read : IsRead event_in (staged (old.stage.time + 1) e) (stages.stage_state old.stage) after [] released)
      (more_pending : pending ≡ closings_in old.pending ++ closing_at (old.stage.time + 1) e) where
    -- what the entry lets out
    abbrev entry_items : List Numbered
    entry_items = numbered_read (old.stage.time + 1) e released

    -- as it is handed on
    found_is : (n : ℕ) (found : Option Item) → n ≡ old.stage.time + 1 → item_list found ≡ passing e → numbered_at n (item_list found) ++ map numbered_event released ≡ entry_items
    found_is n found number same =
        ap (λ (k : ℕ). numbered_at k (item_list found) ++ map numbered_event released) number ∙ ap (λ (l : List Item). numbered_at (old.stage.time + 1) l ++ map numbered_event released) same

    so_far_read : (bound : ℕ) (entries : List Entry) (before : List Numbered) → IsBefore bound old entries e before → LetsOutSoFar bound after pending (entries ++ e ∷ []) [] (before ++ entry_items)
    so_far_read bound entries before b = read_further bound (stages.stage_state old.stage) after (closings_in old.pending) pending entries before e released b.at.so_far b.wait b.apart read more_pending

    pub read_items : (new : HeldMonitor S) → stages.stage_state new.stage ≡ after → closings_in new.pending ≡ pending → new.ended_inside ≡ cond old.ended_inside true (is_end_inside e)
        → GathersItems carries gathered old.sink new.sink entry_items → ReadsEntry carries gathered old new e
    read_items new stage_is pending_is inside gathers = record {
      numbered = entry_items;
      gathers = gathers;
      after = λ bound entries before b. record {
        so_far = so_far_same bound after (stages.stage_state new.stage) pending (closings_in new.pending) (entries ++ e ∷ []) [] (before ++ entry_items) stage_is pending_is (so_far_read bound entries before b);
        inside = inside ∙ ap (λ (x : Bool). cond x true (is_end_inside e)) b.at.inside ∙ sym (inside_more entries e);
      };
    }

    pub read_entry : (new : HeldMonitor S) (n : ℕ) (found : Option Item) → n ≡ old.stage.time + 1 → item_list found ≡ passing e → stages.stage_state new.stage ≡ after → closings_in new.pending ≡ pending
        → new.ended_inside ≡ cond old.ended_inside true (is_end_inside e)
        → GathersItems carries gathered old.sink new.sink (numbered_at n (item_list found) ++ map numbered_event released) → ReadsEntry carries gathered old new e
    read_entry new n found number same stage_is pending_is inside gathers =
        read_items new stage_is pending_is inside (subst (GathersItems carries gathered old.sink new.sink) (found_is n found number same) gathers)

    -- an item failed
    failed_items : (new : HeldMonitor S) → FailsWithin carries gathered old.sink new.sink entry_items → ReadFails carries gathered old new e
    failed_items new part = record {
      numbered = part.0;
      fails = part.3;
      after = λ bound entries before b.
          subst (λ (l : List Entry). AreFirstItems bound l (before ++ part.0)) (append-nil (entries ++ e ∷ []))
          (begins_with bound (entries ++ e ∷ []) [] before part.0 part.1 (before ++ entry_items) (ap (λ (l : List Numbered). before ++ l) part.2)
          (so_far_let_out bound after pending (entries ++ e ∷ []) [] [] (before ++ entry_items) (so_far_read bound entries before b)));
    }

    pub failed_entry : (new : HeldMonitor S) (n : ℕ) (found : Option Item) → n ≡ old.stage.time + 1 → item_list found ≡ passing e → FailsWithin carries gathered old.sink new.sink (numbered_at n (item_list found) ++ map numbered_event released)
        → ReadFails carries gathered old new e
    failed_entry new n found number same part = failed_items new (subst (FailsWithin carries gathered old.sink new.sink) (found_is n found number same) part)

  -- the stage failed
  pub unread : (old new : HeldMonitor S) (e : Entry) → gathered new.sink ≡ gathered old.sink → ReadFails carries gathered old new e
  unread old new e same = record {
    numbered = [];
    fails = behind_none carries gathered old.sink new.sink same;
    after = λ bound entries before b. subst (AreFirstItems bound (entries ++ e ∷ [])) (sym (append-nil before)) (begun_at bound old entries (e ∷ []) [] before b.at);
  }

  -- there is no number for a further entry
  pub uncounted : (m : HeldMonitor S) (e : Entry) → FailsAtEntry carries gathered m m e
  uncounted m e = record {
    numbered = [];
    fails = behind_none carries gathered m.sink m.sink refl;
    after = λ bound entries before h. subst (AreFirstItems bound (entries ++ e ∷ [])) (sym (append-nil before)) (begun bound m entries (e ∷ []) before h);
  }

  -- ---- the end of the script

  module _ (old : HeldMonitor S) (released : List (Noted Asked)) (finished : IsFinished event_in (stages.stage_state old.stage) [] released) where
    -- the items that are carried out behind those of the entries
    abbrev last_items : List Numbered
    last_items = numbered_last old.stage.time released (closings_in old.pending) old.ended_inside

    -- as they are handed on
    last_is : (n : ℕ) (found : Option Item) → n ≡ old.stage.time → item_list found ≡ end_item old.ended_inside
        → map numbered_event released ++ (map numbered_closing (closings_in old.pending) ++ numbered_at n (item_list found)) ≡ last_items
    last_is n found number same =
        ap (λ (k : ℕ). map numbered_event released ++ (map numbered_closing (closings_in old.pending) ++ numbered_at k (item_list found))) number
        ∙ ap (λ (l : List Item). map numbered_event released ++ (map numbered_closing (closings_in old.pending) ++ numbered_at old.stage.time l)) same

    items_at_end : (bound : ℕ) (entries : List Entry) (before : List Numbered) → (h : HasTaken bound old entries before) → AreHeldNumbered bound entries h.at.so_far.expired (before ++ last_items)
    items_at_end bound entries before h =
        held_at_end bound (stages.stage_state old.stage) (closings_in old.pending) entries before released old.ended_inside h.at.so_far h.wait finished h.at.inside

    pub ended : (new : HeldMonitor S) (counts : Counts) (n : ℕ) (found : Option Item) → n ≡ old.stage.time → item_list found ≡ end_item old.ended_inside
        → ((bound : ℕ) (entries : List (stage.Entry Asked)) (closed : Closings) (earlier expired : List (Noted Asked)) → HasStaged event_in bound entries closed earlier expired (stages.stage_state old.stage)
        → (counts.events ≡ length (noted_in entries)) × (counts.expired ≡ length expired))
        → GathersItems carries gathered old.sink new.sink (map numbered_event released ++ (map numbered_closing (closings_in old.pending) ++ numbered_at n (item_list found)))
        → Ends carries gathered old new counts
    ended new counts n found number same counted gathers = record {
      numbered = last_items;
      gathers = subst (GathersItems carries gathered old.sink new.sink) (last_is n found number same) gathers;
      after = λ bound entries before h.
          let c = h.at.so_far in
          let count = counted bound (staged_from 1 entries) c.closed c.released c.expired c.staged in
          record { expired = c.expired; held = items_at_end bound entries before h; events_counted = count.0; expired_counted = count.1 };
    }

    pub failed_with : (new : HeldMonitor S) → FailsWithin carries gathered old.sink new.sink last_items → EndFails carries gathered old new
    failed_with new part = record {
      numbered = part.0;
      fails = part.3;
      after = λ bound entries before h.
          subst (λ (l : List Entry). AreFirstItems bound l (before ++ part.0)) (append-nil entries)
          (begins_with bound entries [] before part.0 part.1 (before ++ last_items) (ap (λ (l : List Numbered). before ++ l) part.2)
          (inr (h.at.so_far.expired, items_at_end bound entries before h)));
    }

    pub failed_last : (new : HeldMonitor S) (n : ℕ) (found : Option Item) → n ≡ old.stage.time → item_list found ≡ end_item old.ended_inside
        → FailsWithin carries gathered old.sink new.sink (map numbered_event released ++ (map numbered_closing (closings_in old.pending) ++ numbered_at n (item_list found)))
        → EndFails carries gathered old new
    failed_last new n found number same part = failed_with new (subst (FailsWithin carries gathered old.sink new.sink) (last_is n found number same) part)

  -- the stage failed at the end
  pub failed_unfinished : (old new : HeldMonitor S) → gathered new.sink ≡ gathered old.sink → EndFails carries gathered old new
  failed_unfinished old new same = record {
    numbered = [];
    fails = behind_none carries gathered old.sink new.sink same;
    after = λ bound entries before h.
        subst (AreFirstItems bound entries) (sym (append-nil before))
        (subst (λ (l : List Entry). AreFirstItems bound l before) (append-nil entries) (begun bound old entries [] before h));
  }
