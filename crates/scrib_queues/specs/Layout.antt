-- The stored form of queues (this project's own). Only contracts of private functions and views cite this file.
use Rattle.std.specs.Prelude.{◌≡◌, ◌≢◌, ℕ, Bool, true, false, List, [], ◌∷◌, Some, map, nat_lt, position, slice_get}
use Rattle.std.specs.VecDeque.{deque_len, deque_capacity}
use Rattle.scrib_queues.specs.declared.queue.Storage.{Storage}
use Rattle.scrib_queues.specs.declared.queue.Storage.TheVariants.{Nowhere, Here, Ring}
use Rattle.scrib_queues.specs.declared.queues.Pair.{Pair}
use Rattle.scrib_queues.specs.Channels.{Channel, is_pair}

-- the pair of sender p and receiver q
abbrev pub pair_of : ℕ → ℕ → Pair
pair_of p q = record { from = p; to = q }

-- a queue that is made for a first item
abbrev pub fresh : {T : Type 0} → Channel T
fresh = record { items = []; room = true }

-- the items of each queue
abbrev pub items_of : {T : Type 0} → List (Channel T) → List (List T)
items_of queues = map (λ queue. queue.items) queues

-- the stored items, the oldest first
abbrev pub items_in : {T : Type 0} → Storage T → List T
items_in Nowhere = []
items_in (Here item) = item ∷ []
items_in (Ring ring) = ring.value.items

-- whether there is room for one more
abbrev pub room_in : {T : Type 0} → Storage T → Bool
room_in Nowhere = true
room_in (Here item) = false
room_in (Ring ring) = nat_lt (deque_len ring.value) (deque_capacity ring.value)

-- an item waits in the queue at this place, which is the first place that has its pair
pub record IsWaitingAt {T : Type 0} (pairs : List Pair) (queues : List (Channel T)) (place : ℕ) : Type 0 where
  pub pair : Pair
  pub queue : Channel T
  pub named : slice_get pairs place ≡ Some pair
  pub first : position (is_pair pair.from pair.to) pairs ≡ Some place
  pub here : slice_get queues place ≡ Some queue
  pub some : queue.items ≢ []
