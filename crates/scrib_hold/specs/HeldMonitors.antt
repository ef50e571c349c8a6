-- A monitor behind a stage, over a sink of the items that are let out (this project's own).
use Rattle.std.specs.Prelude.{◌≡◌, ◌⊎◌, ℕ, false, List, [], ◌∷◌, ◌++◌, length, None}
use Rattle.std.specs.List.{AllByRecursion}
use Rattle.scrib_script_reader.specs.declared.item.Item.{Item}
use Rattle.scrib_script_reader.specs.declared.entry.Entry.{Entry}
use Rattle.scrib_hold_stage.specs.declared.noted.Noted.{Noted}
use Rattle.scrib_hold_stage.specs.declared.stage.Counts.{Counts}
use Rattle.scrib_hold_stage.specs.Entries.{opening_since}
use Rattle.scrib_hold_stage.specs.Firsts.{IsFirstAt}
use Rattle.scrib_hold_stage.specs.PendingClosings.{IsMade, IsApart, IsOf, IsNotReady, closings_in}
use Rattle.scrib_hold_stage.specs.Stages as stages
use Rattle.scrib_hold_stage.specs.Stages.{IsUnreleased, AreAllReleased}
use Rattle.scrib_hold.specs.declared.held_monitor.HeldMonitor.{HeldMonitor}
use Rattle.scrib_hold.specs.HeldScripts.{Asked, Pending, event_in, staged_from, opens_conversation, ends_inside}
use Rattle.scrib_hold.specs.LetOutSoFar.{LetsOutSoFar}
use Rattle.scrib_hold.specs.NumberedItems.{Numbered, numbered_closed, AreFirstItems, AreAllItems}
use Rattle.scrib_hold.specs.Sinks.{GathersItems, FailsBehind, FailsWithin}

-- A monitor with this bound took these entries, and let these items out. These entries follow next, if they are known.
-- What its sink holds does not matter.
pub record IsAt {S : Type 0} (bound : ℕ) (m : HeldMonitor S) (entries next : List Entry) (numbered : List Numbered)
    : Type 0 where
  pub so_far : LetsOutSoFar bound (stages.stage_state m.stage) (closings_in m.pending) entries next numbered
  pub inside : m.ended_inside ≡ ends_inside entries

-- A monitor with this bound took these entries, and let these items out. Each closing that is pending waits further.
pub record HasTaken {S : Type 0} (bound : ℕ) (m : HeldMonitor S) (entries : List Entry) (numbered : List Numbered)
    : Type 0 where
  pub at : IsAt bound m entries [] numbered
  pub wait : AllByRecursion (λ c. IsNotReady c (stages.stage_state m.stage)) (closings_in m.pending)

-- as many entries were taken
abbrev pub IsCount : {S : Type 0} → HeldMonitor S → ℕ → Type 0
IsCount m n =
    (bound : ℕ) (entries : List Entry) (numbered : List Numbered) → HasTaken bound m entries numbered
    → n ≡ length entries

-- the monitor took the entry, and the sink gathered the output of what this lets out
pub record TakesEntry {S : Type 0} (carries : S → S → ℕ → Item → List ℕ → Type 0) (gathered : S → List ℕ)
    (old new : HeldMonitor S) (e : Entry) : Type 0 where
  pub numbered : List Numbered
  pub gathers : GathersItems carries gathered old.sink new.sink numbered
  pub after : (bound : ℕ) (entries : List Entry) (before : List Numbered) → HasTaken bound old entries before
      → HasTaken bound new (entries ++ e ∷ []) (before ++ numbered)

-- the monitor failed at the entry, and the sink gathered the output of first ones of the items
pub record FailsAtEntry {S : Type 0} (carries : S → S → ℕ → Item → List ℕ → Type 0) (gathered : S → List ℕ)
    (old new : HeldMonitor S) (e : Entry) : Type 0 where
  pub numbered : List Numbered
  pub fails : FailsBehind carries gathered old.sink new.sink numbered
  pub after : (bound : ℕ) (entries : List Entry) (before : List Numbered) → HasTaken bound old entries before
      → AreFirstItems bound (entries ++ e ∷ []) (before ++ numbered)

-- the sink gathered the output of what waited at the end of the script, and these are the counts of the events
pub record Ends {S : Type 0} (carries : S → S → ℕ → Item → List ℕ → Type 0) (gathered : S → List ℕ)
    (old new : HeldMonitor S) (counts : Counts) : Type 0 where
  pub numbered : List Numbered
  pub gathers : GathersItems carries gathered old.sink new.sink numbered
  pub after : (bound : ℕ) (entries : List Entry) (before : List Numbered) → HasTaken bound old entries before
      → AreAllItems bound entries counts (before ++ numbered)

-- the monitor failed at the end of the script, and the sink gathered the output of first ones of the items
pub record EndFails {S : Type 0} (carries : S → S → ℕ → Item → List ℕ → Type 0) (gathered : S → List ℕ)
    (old new : HeldMonitor S) : Type 0 where
  pub numbered : List Numbered
  pub fails : FailsBehind carries gathered old.sink new.sink numbered
  pub after : (bound : ℕ) (entries : List Entry) (before : List Numbered) → HasTaken bound old entries before
      → AreFirstItems bound entries (before ++ numbered)

-- Nothing waits of the conversation: all its events since its last closing were released, and no closing of it waits.
abbrev pub HasNoneWaiting : {S : Type 0} → ℕ → HeldMonitor S → Type 0
HasNoneWaiting id m =
    AllByRecursion (IsApart id) (closings_in m.pending)
    × ((bound : ℕ) (entries : List Entry) (numbered : List Numbered) → (h : HasTaken bound m entries numbered)
    → AreAllReleased id (staged_from 1 entries) h.at.so_far.closed h.at.so_far.released)

-- Nothing is left of it: it was not opened since its last closing, and nothing waits of it.
abbrev pub HasNoneLeft : {S : Type 0} → ℕ → HeldMonitor S → Type 0
HasNoneLeft id m =
    HasNoneWaiting id m
    × ((bound : ℕ) (entries : List Entry) (numbered : List Numbered) → (h : HasTaken bound m entries numbered)
    → opening_since (h.at.so_far.closed id) id (staged_from 1 entries) ≡ None)

-- Something waits of it: an event that was not released yet, or a closing.
abbrev pub HasSomeWaiting : {S : Type 0} → ℕ → HeldMonitor S → Type 0
HasSomeWaiting id m =
    ((bound : ℕ) (entries : List Entry) (numbered : List Numbered) → (h : HasTaken bound m entries numbered)
    → IsUnreleased id (staged_from 1 entries) h.at.so_far.closed h.at.so_far.released)
    ⊎ ((index : ℕ) × IsFirstAt (IsOf id) (IsApart id) index (closings_in m.pending))
