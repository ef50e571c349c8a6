-- What a stage let out so far (this project's own).
use Rattle.std.specs.Prelude.{◌≡◌, ℕ, List, [], ◌∷◌, ◌++◌, map}
use Rattle.scrib_script_reader.specs.declared.item.Item.{Item}
use Rattle.scrib_script_reader.specs.declared.entry.Entry.{Entry}
use Rattle.scrib_hold_stage.specs.declared.noted.Noted.{Noted}
use Rattle.scrib_hold_stage.specs.Entries.{Closings, noted_of}
use Rattle.scrib_hold_stage.specs.Conversations.{noted_event}
use Rattle.scrib_hold_stage.specs.Stages.{StageState, HasStaged}
use Rattle.scrib_hold.specs.HeldScripts.{Asked, Pending, event_in, staged_from, item_of, closing_item, noted_events_of}
use Rattle.scrib_hold.specs.NumberedItems.{Numbered, items_in, LetsOutNumbered}

-- what is let out for a closing that is made
abbrev pub closing_items : Pending → List (Noted Asked) → List Item
closing_items c released = map item_of released ++ closing_item c ∷ []

-- Where a stage has this state, and these closings wait: it read these entries, and let out these items. These entries
-- follow next, if they are known.
pub record LetsOutSoFar (bound : ℕ) (s : StageState Asked) (pending : List Pending) (entries next : List Entry)
    (numbered : List Numbered) : Type 0 where
  pub closed : Closings
  pub released : List (Noted Asked)
  pub expired : List (Noted Asked)
  pub staged : HasStaged event_in bound (staged_from 1 entries) closed released expired s
  pub lets : (later : List Entry)
      → LetsOutNumbered bound entries (next ++ later) closed pending released expired numbered
  pub noted : (id : ℕ) → noted_events_of id (items_in numbered) ≡ map (noted_event event_in) (noted_of id released)
