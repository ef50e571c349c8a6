-- Conversations in a stage, and what calls do to one (this project's own).
use Rattle.std.specs.Prelude.{◌≡◌, ℕ, true, false, List, [], ◌∷◌, ◌++◌, Option, None, Some, MatchOption, if◌then◌else◌}
use Rattle.scrib_types.specs.declared.event.Event.{Event}
use Rattle.scrib_holdback.specs.Holdings.{IsAfter, IsOldestWaiting}
use Rattle.scrib_hold_stage.specs.declared.noted.Noted.{Noted}
use Rattle.scrib_hold_stage.specs.declared.conversation.Conversation.{Conversation}

-- the event of an item
abbrev pub noted_event : {A : Type 0} → (A → Event) → Noted A → Event
noted_event event x = event x.arrival

-- what waits in the conversation, in order of arrival
abbrev pub waiting_in : {A : Type 0} → Conversation A → List (Noted A)
waiting_in c = if c.opened then c.holdback.waiting else c.early.items

-- the same, where the conversation may not have been met
abbrev pub waiting_at : {A : Type 0} → Option (Conversation A) → List (Noted A)
waiting_at None = []
waiting_at (Some c) = waiting_in c

-- the conversation is not open yet, and these events wait for its opening
pub record IsUnopened {A : Type 0} (event : A → Event) (arrivals : List (Noted A)) (c : Conversation A) : Type 0 where
  pub unopened : c.opened ≡ false
  pub wait : c.early.items ≡ arrivals
  pub fresh : IsAfter (noted_event event) [] [] [] c.holdback

-- the conversation is open: these events arrived since, of which these were released, and these of them expired
pub record IsOpen {A : Type 0} (event : A → Event) (arrivals released expired : List (Noted A)) (c : Conversation A)
    : Type 0 where
  pub opened : c.opened ≡ true
  pub none_early : c.early.items ≡ []
  pub after : IsAfter (noted_event event) arrivals released expired c.holdback

-- the same, where the conversation may not have been met
abbrev pub IsUnopenedAt : {A : Type 0} → (A → Event) → List (Noted A) → Option (Conversation A) → Type 0
IsUnopenedAt event arrivals None = arrivals ≡ []
IsUnopenedAt event arrivals (Some c) = IsUnopened event arrivals c

-- the same
abbrev pub IsOpenAt : {A : Type 0} → (A → Event) → (arrivals released expired : List (Noted A))
    → Option (Conversation A) → Type 0
IsOpenAt event arrivals released expired o = MatchOption o ⊥ (λ c. IsOpen event arrivals released expired c)

-- items were put behind those that were
abbrev pub IsAddedTo : {A : Type 0} → (released now : List A) → Type 0
IsAddedTo {A} released now = (given : List A) × (now ≡ released ++ given)

-- the item is taken: it waits for the opening, or it arrives, and these are released then, behind those that were
pub record IsPushedTo {A : Type 0} (event : A → Event) (x : Noted A) (old new : Option (Conversation A))
    (released now : List (Noted A)) : Type 0 where
  pub given : List (Noted A)
  pub appended : now ≡ released ++ given
  pub unopened : (waiting : List (Noted A)) → IsUnopenedAt event waiting old
      → IsUnopenedAt event (waiting ++ x ∷ []) new × (given ≡ [])
  pub opened : (arrivals earlier expired : List (Noted A)) → IsOpenAt event arrivals earlier expired old
      → IsOpenAt event (arrivals ++ x ∷ []) (earlier ++ given) expired new

-- an item of this event was taken, whichever: it is released at once, and nothing else is
abbrev pub PassesAloneIn : {A : Type 0} → (A → Event) → Event → (old new : Conversation A) → Type 0
PassesAloneIn {A} event e old new =
    (x : Noted A) → noted_event event x ≡ e → (released : List (Noted A))
    → IsPushedTo event x (Some old) (Some new) released (released ++ x ∷ [])

-- the conversation is open from now on: what waited for this arrives, and these items are released
pub record IsOpenedIn {A : Type 0} (event : A → Event) (old new : Option (Conversation A))
    (released now : List (Noted A)) : Type 0 where
  pub given : List (Noted A)
  pub appended : now ≡ released ++ given
  pub unopened : (waiting : List (Noted A)) → IsUnopenedAt event waiting old → IsOpenAt event waiting given [] new
  pub opened : (arrivals earlier expired : List (Noted A)) → IsOpenAt event arrivals earlier expired old
      → IsOpenAt event arrivals (earlier ++ given) expired new

-- the oldest item that waits, which is of this time, expired: it is released, and then what this makes possible
pub record IsExpiredIn {A : Type 0} (event : A → Event) (time : ℕ) (old new : Option (Conversation A))
    (released now : List (Noted A)) : Type 0 where
  pub oldest : Noted A
  pub timed : oldest.time ≡ time
  pub waited : IsOldestWaiting (waiting_at old) oldest
  pub given : List (Noted A)
  pub appended : now ≡ released ++ oldest ∷ given
  pub unopened : (waiting : List (Noted A)) → IsUnopenedAt event (oldest ∷ waiting) old
      → IsUnopenedAt event waiting new × (given ≡ [])
  pub opened : (arrivals earlier expired : List (Noted A)) → IsOpenAt event arrivals earlier expired old
      → IsOpenAt event arrivals (earlier ++ oldest ∷ given) (expired ++ oldest ∷ []) new

-- the oldest item that waits is of this time
abbrev pub IsOldestOfTime : {A : Type 0} → ℕ → Option (Conversation A) → Type 0
IsOldestOfTime {A} time now = (x : Noted A) × IsOldestWaiting (waiting_at now) x × (x.time ≡ time)

-- it is not
abbrev pub IsNotOldest : {A : Type 0} → ℕ → Option (Conversation A) → Type 0
IsNotOldest {A} time now = (x : Noted A) → IsOldestWaiting (waiting_at now) x → x.time ≡ time → ⊥
