-- The steps by which a monitor behind a stage takes an entry (this project's own). Only contracts of private functions
-- cite this file.
use Rattle.std.specs.Prelude.{◌≡◌, ◌⊎◌, ℕ, false, List, [], ◌∷◌, ◌++◌}
use Rattle.std.specs.List.{AllByRecursion}
use Rattle.scrib_script_reader.specs.declared.item.Item.{Item}
use Rattle.scrib_script_reader.specs.declared.entry.Entry.{Entry}
use Rattle.scrib_hold_stage.specs.declared.noted.Noted.{Noted}
use Rattle.scrib_hold_stage.specs.PendingClosings.{IsMade, IsNotReady, closings_in}
use Rattle.scrib_hold_stage.specs.Stages as stages
use Rattle.scrib_hold.specs.declared.held_monitor.HeldMonitor.{HeldMonitor}
use Rattle.scrib_hold.specs.HeldScripts.{Asked, Pending, event_in, opens_conversation}
use Rattle.scrib_hold.specs.HeldMonitors.{IsAt, HasTaken}
use Rattle.scrib_hold.specs.NumberedItems.{Numbered, numbered_closed, AreFirstItems}
use Rattle.scrib_hold.specs.Sinks.{GathersItems, FailsBehind, FailsWithin}

-- Entries were taken, and each closing waits further. This entry follows next, and no closing is of a conversation that
-- it opens.
pub record IsBefore {S : Type 0} (bound : ℕ) (m : HeldMonitor S) (entries : List Entry) (e : Entry)
    (numbered : List Numbered) : Type 0 where
  pub at : IsAt bound m entries (e ∷ []) numbered
  pub wait : AllByRecursion (λ c. IsNotReady c (stages.stage_state m.stage)) (closings_in m.pending)
  pub apart : AllByRecursion (λ c. opens_conversation c.conversation e ≡ false) (closings_in m.pending)

-- the closings of the conversation that the entry opens were carried out
pub record ClosesBefore {S : Type 0} (carries : S → S → ℕ → Item → List ℕ → Type 0) (gathered : S → List ℕ)
    (old new : HeldMonitor S) (e : Entry) : Type 0 where
  pub numbered : List Numbered
  pub gathers : GathersItems carries gathered old.sink new.sink numbered
  pub after : (bound : ℕ) (entries : List Entry) (before : List Numbered) → HasTaken bound old entries before
      → IsBefore bound new entries e (before ++ numbered)

-- the entry was read, and what this lets out was carried out
pub record ReadsEntry {S : Type 0} (carries : S → S → ℕ → Item → List ℕ → Type 0) (gathered : S → List ℕ)
    (old new : HeldMonitor S) (e : Entry) : Type 0 where
  pub numbered : List Numbered
  pub gathers : GathersItems carries gathered old.sink new.sink numbered
  pub after : (bound : ℕ) (entries : List Entry) (before : List Numbered) → IsBefore bound old entries e before
      → IsAt bound new (entries ++ e ∷ []) [] (before ++ numbered)

-- the entry failed, and first ones of the items were carried out
pub record ReadFails {S : Type 0} (carries : S → S → ℕ → Item → List ℕ → Type 0) (gathered : S → List ℕ)
    (old new : HeldMonitor S) (e : Entry) : Type 0 where
  pub numbered : List Numbered
  pub fails : FailsBehind carries gathered old.sink new.sink numbered
  pub after : (bound : ℕ) (entries : List Entry) (before : List Numbered) → IsBefore bound old entries e before
      → AreFirstItems bound (entries ++ e ∷ []) (before ++ numbered)

-- the closings that wait no further were carried out
pub record ClosesReady {S : Type 0} (carries : S → S → ℕ → Item → List ℕ → Type 0) (gathered : S → List ℕ)
    (old new : HeldMonitor S) : Type 0 where
  pub numbered : List Numbered
  pub gathers : GathersItems carries gathered old.sink new.sink numbered
  pub after : (bound : ℕ) (entries : List Entry) (before : List Numbered) → IsAt bound old entries [] before
      → HasTaken bound new entries (before ++ numbered)

-- one of them failed, and first ones of the items were carried out
pub record CloseReadyFails {S : Type 0} (carries : S → S → ℕ → Item → List ℕ → Type 0) (gathered : S → List ℕ)
    (old new : HeldMonitor S) : Type 0 where
  pub numbered : List Numbered
  pub fails : FailsBehind carries gathered old.sink new.sink numbered
  pub after : (bound : ℕ) (entries : List Entry) (before : List Numbered) → IsAt bound old entries [] before
      → AreFirstItems bound entries (before ++ numbered)

-- the first closing that has the one property was made, and was carried out behind what was released then
pub record ClosesOne {S : Type 0} (carries : S → S → ℕ → Item → List ℕ → Type 0) (gathered : S → List ℕ)
    (Is IsNot : Pending → Type 0) (old new : HeldMonitor S) : Type 0 where
  pub c : Pending
  pub released : List (Noted Asked)
  pub made : IsMade event_in Is IsNot c (closings_in old.pending) (closings_in new.pending)
      (stages.stage_state old.stage) (stages.stage_state new.stage) [] released
  pub inside : new.ended_inside ≡ old.ended_inside
  pub gathers : GathersItems carries gathered old.sink new.sink (numbered_closed c released)

-- it was made, but carried out in part
pub record ClosesInPart {S : Type 0} (carries : S → S → ℕ → Item → List ℕ → Type 0) (gathered : S → List ℕ)
    (Is IsNot : Pending → Type 0) (old new : HeldMonitor S) : Type 0 where
  pub c : Pending
  pub left : List Pending
  pub after : stages.StageState Asked
  pub released : List (Noted Asked)
  pub made : IsMade event_in Is IsNot c (closings_in old.pending) left (stages.stage_state old.stage) after [] released
  pub fails : FailsWithin carries gathered old.sink new.sink (numbered_closed c released)

-- it was made in part, and nothing was carried out, or it was carried out in part
abbrev pub CloseFails : {S : Type 0} → (S → S → ℕ → Item → List ℕ → Type 0) → (S → List ℕ)
    → (Is IsNot : Pending → Type 0) → (old new : HeldMonitor S) → Type 0
CloseFails carries gathered Is IsNot old new =
    (gathered new.sink ≡ gathered old.sink) ⊎ ClosesInPart carries gathered Is IsNot old new

-- the monitor is as it was, but for what the stage released last
pub record IsSameButReleased {S : Type 0} (old new : HeldMonitor S) : Type 0 where
  pub stage : stages.stage_state new.stage ≡ stages.stage_state old.stage
  pub pending : closings_in new.pending ≡ closings_in old.pending
  pub sink : new.sink ≡ old.sink
  pub inside : new.ended_inside ≡ old.ended_inside
