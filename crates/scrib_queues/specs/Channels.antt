-- First-in-first-out queues of items, one for each ordered pair of roles, which are given by their positions. One queue
-- is called a channel, as in communicating finite-state machines (Brand and Zafiropulo, JACM 1983).
use Rattle.std.specs.Prelude.{◌≡◌, ◌==◌, ℕ, Bool, true, false, ◌&&◌, IsTrue, List, [], ◌∷◌, if◌then◌else◌}
use Rattle.scrib_queues.specs.declared.queues.Pair.{Pair}

-- one queue: its items, the oldest first, and whether there is room to push one more (this project's own)
pub record Channel (T : Type 0) : Type 0 where
  pub items : List T
  pub room : Bool

-- the number of roles, and the queues that were used, each with its pair (this project's own)
pub record Channels (T : Type 0) : Type 0 where
  pub roles : ℕ
  pub used : List (Pair × Channel T)

-- whether the pair is that of sender p and receiver q
abbrev pub is_pair : ℕ → ℕ → Pair → Bool
is_pair p q pair = (pair.from == p) && (pair.to == q)

-- a queue that was never used
abbrev pub unused : {T : Type 0} → Channel T
unused = record { items = []; room = false }

-- the queue from p to q
abbrev pub channel_in : {T : Type 0} → ℕ → ℕ → List (Pair × Channel T) → Channel T
channel_in p q [] = unused
channel_in p q (entry ∷ used) = if is_pair p q entry.0 then entry.1 else channel_in p q used

-- the items from p to q, the oldest first (this project's own)
unfoldable pub queue_of : {T : Type 0} → Channels T → ℕ → ℕ → List T
queue_of queues p q = (channel_in p q queues.used).items

-- an item from p to q can be pushed (this project's own)
unfoldable pub has_room : {T : Type 0} → Channels T → ℕ → ℕ → Bool
has_room queues p q = (channel_in p q queues.used).room

-- no item waits (this project's own)
abbrev pub AllEmpty : {T : Type 0} → Channels T → Type 0
AllEmpty queues = (p q : ℕ) → queue_of queues p q ≡ []

-- the same items wait from each role to each other (this project's own)
abbrev pub SameQueues : {T : Type 0} → Channels T → Channels T → Type 0
SameQueues old new = (p q : ℕ) → queue_of new p q ≡ queue_of old p q

-- each queue with room keeps it (this project's own)
abbrev pub KeepsRoom : {T : Type 0} → Channels T → Channels T → Type 0
KeepsRoom old new = (p q : ℕ) → IsTrue (has_room old p q) → IsTrue (has_room new p q)

-- every other queue than the one from p to q has the items and the room that it had (this project's own)
abbrev pub SameElsewhere : {T : Type 0} → ℕ → ℕ → Channels T → Channels T → Type 0
SameElsewhere p q old new =
    (from to : ℕ) → ¬ ((from ≡ p) × (to ≡ q))
    → (queue_of new from to ≡ queue_of old from to) × (has_room new from to ≡ has_room old from to)

-- the oldest item was this one and is taken out, or it was another and the queue is unchanged (this project's own)
abbrev pub IsTaken : {T : Type 0} → T → Bool → List T → List T → Type 0
IsTaken item true old new = old ≡ item ∷ new
IsTaken {T} item false old new = (new ≡ old) × ((rest : List T) → old ≡ item ∷ rest → ⊥)
