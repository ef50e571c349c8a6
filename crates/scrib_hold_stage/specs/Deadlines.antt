-- When the events that wait expire (this project's own). Only contracts of private functions and `IsKept` cite this
-- file.
use Rattle.std.specs.Prelude.{ℕ, ◌+◌, ◌<◌, ◌≤◌, ◌≡◌, ◌&&◌, Bool, true, false, List, [], ◌∷◌, length, filter, nat_eq}
use Rattle.std.specs.List.{AllByRecursion}
use Rattle.scrib_hold_stage.specs.declared.noted.Noted.{Noted}
use Rattle.scrib_hold_stage.specs.declared.deadlines.Deadline.{Deadline}
use Rattle.scrib_hold_stage.specs.Firsts.{IsFirstTaken}
use Rattle.scrib_hold_stage.specs.Conversations.{waiting_at}
use Rattle.scrib_hold_stage.specs.Changes.{Conversations, conversation_at}

-- the time of each is less than the times of those behind it
abbrev pub IsInOrder : {X : Type 0} → (X → ℕ) → List X → Type 0
IsInOrder time [] = Unit {0}
IsInOrder time (x ∷ xs) = AllByRecursion (λ y. time x < time y) xs × IsInOrder time xs

-- the time of a deadline
abbrev pub due_time : Deadline → ℕ
due_time d = d.time

-- how many items pass
abbrev pub how_many : {X : Type 0} → (X → Bool) → List X → ℕ
how_many test items = length (filter test items)

-- the item is of this time
abbrev pub is_at : {A : Type 0} → ℕ → Noted A → Bool
is_at n x = nat_eq n x.time

-- the deadline is that of the conversation's item of this time
abbrev pub is_deadline : (id n : ℕ) → Deadline → Bool
is_deadline id n d = nat_eq n d.time && nat_eq id d.conversation

-- Deadlines are in order, and none is later than now. Each item that waits has one.
pub record AreListed {A : Type 0} (time : ℕ) (conversations : Conversations A) (deadlines : List Deadline)
    : Type 0 where
  pub ordered : IsInOrder due_time deadlines
  pub within : AllByRecursion (λ d. d.time ≤ time) deadlines
  pub complete : (id n : ℕ) → 0 < how_many (is_at n) (waiting_at (conversation_at conversations id))
      → 0 < how_many (is_deadline id n) deadlines

-- the first deadline, if there is one, is later than this
abbrev pub StartsAfter : ℕ → List Deadline → Type 0
StartsAfter due [] = Unit {0}
StartsAfter due (d ∷ deadlines) = due < d.time

-- the event of the first deadline, if there is one, does not expire at this time
abbrev pub StartsLate : (time bound : ℕ) → List Deadline → Type 0
StartsLate time bound [] = Unit {0}
StartsLate time bound (d ∷ deadlines) = time < d.time + bound

-- each deadline is of another conversation
abbrev pub AreOfOthers : (id : ℕ) → List Deadline → Type 0
AreOfOthers id deadlines = AllByRecursion (λ d. nat_eq id d.conversation ≡ false) deadlines

-- the deadline is of the conversation
abbrev pub IsOfConversation : (id : ℕ) → Deadline → Type 0
IsOfConversation id d = d.conversation ≡ id

-- it is of another
abbrev pub IsOfOther : (id : ℕ) → Deadline → Type 0
IsOfOther id d = nat_eq id d.conversation ≡ false

-- this deadline, the first of the conversation, is taken out
abbrev pub IsFirstOf : (id : ℕ) → Deadline → (old new : List Deadline) → Type 0
IsFirstOf id d old new = IsFirstTaken (IsOfConversation id) (IsOfOther id) d old new

-- the deadlines of the conversation are later than this
abbrev pub AreLaterOf : (id n : ℕ) → List Deadline → Type 0
AreLaterOf id n deadlines = AllByRecursion (λ d. nat_eq id d.conversation ≡ true → n < d.time) deadlines
