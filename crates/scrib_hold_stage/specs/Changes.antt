-- The conversations by id, and what calls do to them (this project's own). Only contracts of private functions cite
-- this file, but for `conversation_at`.
use Rattle.std.specs.Prelude.{◌≡◌, ℕ, false, List, [], ◌∷◌, ◌++◌, Option, Some, slice_get, nat_eq}
use Rattle.std.specs.Map.{lookup}
use Rattle.scrib_types.specs.declared.event.Event.{Event}
use Rattle.scrib_hold_stage.specs.declared.noted.Noted.{Noted}
use Rattle.scrib_hold_stage.specs.declared.conversation.Conversation.{Conversation}
use Rattle.scrib_hold_stage.specs.Conversations.{noted_event, IsUnopenedAt, IsOpenAt, IsExpiredIn, IsOpenedIn, IsPushedTo}

-- the conversations that were met, each with its id
abbrev pub Conversations : Type 0 → Type 0
Conversations A = List (ℕ × Conversation A)

-- the conversation of the id, if it was met
abbrev pub conversation_at : {A : Type 0} → Conversations A → ℕ → Option (Conversation A)
conversation_at conversations id = lookup (nat_eq id) conversations

-- the conversation at this place is that of the id
abbrev pub IsPlaceOf : {A : Type 0} → Conversations A → (at id : ℕ) → Type 0
IsPlaceOf {A} conversations at id = (c : Conversation A) × (slice_get conversations at ≡ Some (id, c))

-- the other conversations are the same
abbrev pub LeavesOthers : {A : Type 0} → ℕ → (old new : Conversations A) → Type 0
LeavesOthers id old new = (k : ℕ) → nat_eq id k ≡ false → conversation_at new k ≡ conversation_at old k

-- the conversation is met, if it was not, and is held as before
pub record IsMet {A : Type 0} (event : A → Event) (id : ℕ) (old new : Conversations A) : Type 0 where
  pub others : LeavesOthers id old new
  pub unopened : (waiting : List (Noted A)) → IsUnopenedAt event waiting (conversation_at old id)
      → IsUnopenedAt event waiting (conversation_at new id)
  pub opened : (arrivals released expired : List (Noted A))
      → IsOpenAt event arrivals released expired (conversation_at old id)
      → IsOpenAt event arrivals released expired (conversation_at new id)

-- the item is taken by its conversation, and these are released then, behind those that were
pub record IsPushedOf {A : Type 0} (event : A → Event) (x : Noted A) (old new : Conversations A)
    (released now : List (Noted A)) : Type 0 where
  pub others : LeavesOthers x.conversation old new
  pub pushed : IsPushedTo event x (conversation_at old x.conversation) (conversation_at new x.conversation) released now

-- an item of this event was taken by its conversation, whichever: it is released at once, and nothing else is
abbrev pub PassesAloneOf : {A : Type 0} → (A → Event) → (id : ℕ) → Event → (old new : Conversations A) → Type 0
PassesAloneOf {A} event id e old new =
    (x : Noted A) → x.conversation ≡ id → noted_event event x ≡ e → (released : List (Noted A))
    → IsPushedOf event x old new released (released ++ x ∷ [])

-- the conversation is open from now on, and these items are released then, behind those that were
pub record IsOpenedOf {A : Type 0} (event : A → Event) (id : ℕ) (old new : Conversations A)
    (released now : List (Noted A)) : Type 0 where
  pub others : LeavesOthers id old new
  pub opened : IsOpenedIn event (conversation_at old id) (conversation_at new id) released now

-- the oldest item of the conversation, which is of this time, expired: it is released, and what this makes possible
pub record IsExpiredOf {A : Type 0} (event : A → Event) (id time : ℕ) (old new : Conversations A)
    (released now : List (Noted A)) : Type 0 where
  pub others : LeavesOthers id old new
  pub expired : IsExpiredIn event time (conversation_at old id) (conversation_at new id) released now
