-- The steps of a stage (this project's own). Only contracts of private functions cite this file.
use Rattle.std.specs.Prelude.{◌≡◌, ◌⊎◌, ℕ, ◌+◌, ◌≤◌, true, List, [], ◌∷◌, ◌++◌}
use Rattle.std.specs.List.{AllByRecursion}
use Rattle.scrib_types.specs.declared.event.Event.{Event}
use Rattle.scrib_hold_stage.specs.declared.noted.Noted.{Noted}
use Rattle.scrib_hold_stage.specs.declared.deadlines.Deadline.{Deadline}
use Rattle.scrib_hold_stage.specs.Entries.{Entry, Closings, is_of, noted_since}
use Rattle.scrib_hold_stage.specs.Conversations.{waiting_at}
use Rattle.scrib_hold_stage.specs.Changes.{conversation_at, LeavesOthers}
use Rattle.scrib_hold_stage.specs.Deadlines.{StartsAfter, IsFirstOf, AreLaterOf}
use Rattle.scrib_hold_stage.specs.Stages.{StageState, HasStaged, IsStageKept, Expires}

-- the entry was read, but for what expires then
pub record IsEntryTaken {A : Type 0} (event : A → Event) (entry : Entry A) (old new : StageState A)
    (released now : List (Noted A)) : Type 0 where
  pub given : List (Noted A)
  pub appended : now ≡ released ++ given
  pub after : (bound : ℕ) (entries : List (Entry A)) (closed : Closings) (earlier expired : List (Noted A))
      → HasStaged event bound entries closed earlier expired old
      → IsStageKept event bound (entries ++ entry ∷ []) closed (earlier ++ given) expired new

-- items that had waited since this time or longer expired, and others were released
pub record IsExpiring {A : Type 0} (event : A → Event) (due : ℕ) (old new : StageState A)
    (released now : List (Noted A)) : Type 0 where
  pub given : List (Noted A)
  pub gone : List (Noted A)
  pub appended : now ≡ released ++ given
  pub passed : AllByRecursion (λ x. x.time ≤ due) gone
  pub in_turn : (bound : ℕ) (entries : List (Entry A)) (closed : Closings) (earlier expired : List (Noted A))
      → IsStageKept event bound entries closed earlier expired old
      → Expires given gone × AllByRecursion (λ x. StartsAfter x.time new.deadlines) gone
  pub after : (bound : ℕ) (entries : List (Entry A)) (closed : Closings) (earlier expired : List (Noted A))
      → IsStageKept event bound entries closed earlier expired old
      → IsStageKept event bound entries closed (earlier ++ given) (expired ++ gone) new

-- the item of the deadline expired, and others of its conversation were released behind it
pub record IsGone {A : Type 0} (d : Deadline) (given gone : List (Noted A)) : Type 0 where
  pub x : Noted A
  pub others : List (Noted A)
  pub timed : x.time ≡ d.time
  pub of : x.conversation ≡ d.conversation
  pub first : given ≡ x ∷ others
  pub only : gone ≡ x ∷ []
  pub own : AllByRecursion (λ y. is_of x.conversation y ≡ true) others

-- The first deadline, which is not later than this, passed. Its item expired, or was released before.
pub record IsDeadlinePassed {A : Type 0} (event : A → Event) (due : ℕ) (old new : StageState A)
    (released now : List (Noted A)) : Type 0 where
  pub given : List (Noted A)
  pub gone : List (Noted A)
  pub appended : now ≡ released ++ given
  pub passed : AllByRecursion (λ x. x.time ≤ due) gone
  pub first : Deadline
  pub was : old.deadlines ≡ first ∷ new.deadlines
  pub one : (bound : ℕ) (entries : List (Entry A)) (closed : Closings) (earlier expired : List (Noted A))
      → IsStageKept event bound entries closed earlier expired old
      → ((given ≡ []) × (gone ≡ [])) ⊎ IsGone first given gone
  pub after : (bound : ℕ) (entries : List (Entry A)) (closed : Closings) (earlier expired : List (Noted A))
      → IsStageKept event bound entries closed earlier expired old
      → IsStageKept event bound entries closed (earlier ++ given) (expired ++ gone) new

-- what had waited for long enough expired, if what expired before had
pub record IsRipened {A : Type 0} (event : A → Event) (old new : StageState A) (released now : List (Noted A))
    : Type 0 where
  pub given : List (Noted A)
  pub gone : List (Noted A)
  pub appended : now ≡ released ++ given
  pub in_turn : (bound : ℕ) (entries : List (Entry A)) (closed : Closings) (earlier expired : List (Noted A))
      → IsStageKept event bound entries closed earlier expired old → Expires given gone
  pub after : (bound : ℕ) (entries : List (Entry A)) (closed : Closings) (earlier expired : List (Noted A))
      → IsStageKept event bound entries closed earlier expired old
      → ((id : ℕ) → AllByRecursion (λ x. x.time + bound ≤ old.time) (noted_since (closed id) id expired))
      → HasStaged event bound entries closed (earlier ++ given) (expired ++ gone) new

-- The first deadline of the conversation was taken out. Its item expired, or was released before.
pub record IsDeadlineTaken {A : Type 0} (event : A → Event) (id : ℕ) (old new : StageState A)
    (released now : List (Noted A)) : Type 0 where
  pub given : List (Noted A)
  pub gone : List (Noted A)
  pub appended : now ≡ released ++ given
  pub first : Deadline
  pub was : IsFirstOf id first old.deadlines new.deadlines
  pub others : LeavesOthers id old.conversations new.conversations
  pub one : (bound : ℕ) (entries : List (Entry A)) (closed : Closings) (earlier expired : List (Noted A))
      → IsStageKept event bound entries closed earlier expired old
      → ((given ≡ []) × (gone ≡ [])) ⊎ IsGone first given gone
  pub after : (bound : ℕ) (entries : List (Entry A)) (closed : Closings) (earlier expired : List (Noted A))
      → IsStageKept event bound entries closed earlier expired old
      → IsStageKept event bound entries closed (earlier ++ given) (expired ++ gone) new

-- these items of the conversation were released as these expired, which were earlier than the deadlines that are left
pub record AreExpiredOf {A : Type 0} (id : ℕ) (given gone : List (Noted A)) (left : List Deadline) : Type 0 where
  pub in_turn : Expires given gone
  pub earlier : AllByRecursion (λ x. AreLaterOf id x.time left) gone
  pub own : AllByRecursion (λ x. is_of id x ≡ true) given
  pub own_gone : AllByRecursion (λ x. is_of id x ≡ true) gone

-- items of the conversation expired, one after another, and others of it were released
pub record IsExpiringOf {A : Type 0} (event : A → Event) (id : ℕ) (old new : StageState A)
    (released now : List (Noted A)) : Type 0 where
  pub given : List (Noted A)
  pub gone : List (Noted A)
  pub appended : now ≡ released ++ given
  pub others : LeavesOthers id old.conversations new.conversations
  pub expired : (bound : ℕ) (entries : List (Entry A)) (closed : Closings) (earlier expired : List (Noted A))
      → IsStageKept event bound entries closed earlier expired old → AreExpiredOf id given gone new.deadlines
  pub after : (bound : ℕ) (entries : List (Entry A)) (closed : Closings) (earlier expired : List (Noted A))
      → IsStageKept event bound entries closed earlier expired old
      → IsStageKept event bound entries closed (earlier ++ given) (expired ++ gone) new

-- all that waited of the conversation expired
pub record AreAllExpired {A : Type 0} (event : A → Event) (id : ℕ) (old new : StageState A)
    (released now : List (Noted A)) : Type 0 where
  pub expiring : IsExpiringOf event id old new released now
  pub at_once : waiting_at (conversation_at old.conversations id) ≡ [] → expiring.given ≡ []
  pub none_waits : (bound : ℕ) (entries : List (Entry A)) (closed : Closings) (earlier expired : List (Noted A))
      → IsStageKept event bound entries closed earlier expired new
      → waiting_at (conversation_at new.conversations id) ≡ []
