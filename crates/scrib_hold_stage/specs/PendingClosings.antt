-- Closings that wait for the events of their conversations (this project's own).
use Rattle.std.specs.Prelude.{◌≡◌, ◌⊎◌, ℕ, ◌+◌, ◌<◌, ◌≤◌, false, List, [], ◌∷◌, ◌++◌, Some, take, drop, slice_get, suc, nat_eq}
use Rattle.scrib_types.specs.declared.event.Event.{Event}
use Rattle.scrib_hold_stage.specs.declared.noted.Noted.{Noted}
use Rattle.scrib_hold_stage.specs.declared.closings.Closing.{Closing}
use Rattle.scrib_hold_stage.specs.declared.closings.PendingClosings.{PendingClosings}
use Rattle.scrib_hold_stage.specs.Conversations.{waiting_at}
use Rattle.scrib_hold_stage.specs.Changes.{conversation_at}
use Rattle.scrib_hold_stage.specs.Firsts.{IsFirstTaken}
use Rattle.scrib_hold_stage.specs.Stages.{StageState, Waits, IsClosed}

-- what contracts see of closings: the list of them
abbrev pub closings_in : {T : Type 0} → PendingClosings T → List (Closing T)
closings_in pending = pending.closings.items

-- as many entries were read since the closing's as the bound says, or no event of its conversation waits
abbrev pub IsReady : {T A : Type 0} → Closing T → StageState A → Type 0
IsReady c s = (c.time + s.bound ≤ s.time) ⊎ (waiting_at (conversation_at s.conversations c.conversation) ≡ [])

-- neither is so
abbrev pub IsNotReady : {T A : Type 0} → Closing T → StageState A → Type 0
IsNotReady c s = (s.time < c.time + s.bound) × Waits c.conversation s

-- the closing is of the conversation
abbrev pub IsOf : {T : Type 0} → ℕ → Closing T → Type 0
IsOf id c = c.conversation ≡ id

-- it is of another
abbrev pub IsApart : {T : Type 0} → ℕ → Closing T → Type 0
IsApart id c = nat_eq id c.conversation ≡ false

-- the first closing that has the one property was taken out, and its conversation was closed
pub record IsMade {T A : Type 0} (event : A → Event) (Is IsNot : Closing T → Type 0) (c : Closing T)
    (old new : List (Closing T)) (s t : StageState A) (released now : List (Noted A)) : Type 0 where
  pub taken : IsFirstTaken Is IsNot c old new
  pub closed : IsClosed event c.conversation s t released now

-- the list has an item at this index
abbrev pub IsWithin : {X : Type 0} → ℕ → List X → Type 0
IsWithin {X} index items = (x : X) × (slice_get items index ≡ Some x)

-- the closing at this index was taken out, and its conversation was closed
pub record IsMadeAt {T A : Type 0} (event : A → Event) (index : ℕ) (c : Closing T) (old new : List (Closing T))
    (s t : StageState A) (released now : List (Noted A)) : Type 0 where
  pub at : slice_get old index ≡ Some c
  pub left : new ≡ take index old ++ drop (suc index) old
  pub closed : IsClosed event c.conversation s t released now
