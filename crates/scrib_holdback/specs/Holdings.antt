-- The state of a holdback, and what its calls do (this project's own).
use Rattle.std.specs.Prelude.{◌≡◌, ℕ, ◌&&◌, Bool, List, [], ◌∷◌, ◌++◌, map, length, if◌then◌else◌}
use Rattle.std.specs.Str.{bytes_eq}
use Rattle.scrib_types.specs.declared.event.Event.{Event}
use Rattle.scrib_types.specs.Queues.{sent, received}
use Rattle.scrib_holdback.specs.declared.flights.Flight.{Flight}
use Rattle.scrib_holdback.specs.HoldBack.{IsHeldWithExpiries}

-- the roles that were met, what waits, in order of arrival, and what was sent and received on which pairs
pub record Holding (A : Type 0) : Type 0 where
  pub roles : List (List ℕ)
  pub waiting : List A
  pub flights : List Flight

-- the flight is on the pair of p and q
abbrev pub is_between : List ℕ → List ℕ → Flight → Bool
is_between p q flight = bytes_eq flight.from p && bytes_eq flight.to q

-- this count of the pair of p and q
abbrev pub count_on : (Flight → ℕ) → List ℕ → List ℕ → List Flight → ℕ
count_on count p q [] = 0
count_on count p q (flight ∷ flights) = if is_between p q flight then count flight else count_on count p q flights

-- how many messages were sent from p to q
abbrev pub sent_on : List ℕ → List ℕ → List Flight → ℕ
sent_on p q flights = count_on (λ (flight : Flight). flight.sent) p q flights

-- how many messages from p were received by q
abbrev pub received_on : List ℕ → List ℕ → List Flight → ℕ
received_on p q flights = count_on (λ (flight : Flight). flight.received) p q flights

-- the counts of each pair are those of these events
pub record AreCounts (log : List Event) (flights : List Flight) : Type 0 where
  pub sends : (p q : List ℕ) → sent_on p q flights ≡ length (sent p q log)
  pub receptions : (p q : List ℕ) → received_on p q flights ≡ length (received p q log)

-- the state after these arrivals, of which these were released, and these of them expired
pub record IsAfter {A : Type 0} (event : A → Event) (arrivals released expired : List A) (h : Holding A) : Type 0 where
  pub held : IsHeldWithExpiries event arrivals released expired h.waiting
  pub counts : AreCounts (map event released) h.flights

-- the arrival was pushed: after any earlier ones, these items are released then, behind those that were
pub record IsPushed {A : Type 0} (event : A → Event) (arrival : A) (old new : Holding A) (released now : List A)
    : Type 0 where
  pub given : List A
  pub appended : now ≡ released ++ given
  pub after : (arrivals earlier expired : List A) → IsAfter event arrivals earlier expired old
      → IsAfter event (arrivals ++ arrival ∷ []) (earlier ++ given) expired new

-- an arrival of this event was pushed, whichever: it is released at once, and nothing else is
abbrev pub PassesAlone : {A : Type 0} → (A → Event) → Event → (old new : Holding A) → Type 0
PassesAlone {A} event e old new =
    (x : A) → event x ≡ e → (released : List A) → IsPushed event x old new released (released ++ x ∷ [])

-- the item is the oldest of those that wait
abbrev pub IsOldestWaiting : {A : Type 0} → List A → A → Type 0
IsOldestWaiting {A} waiting x = (later : List A) × (waiting ≡ x ∷ later)

-- the oldest waiting arrival expired: it is released, and then what the rule releases, behind those that were
pub record IsExpired {A : Type 0} (event : A → Event) (old new : Holding A) (released now : List A) : Type 0 where
  pub oldest : A
  pub waited : IsOldestWaiting old.waiting oldest
  pub given : List A
  pub appended : now ≡ released ++ oldest ∷ given
  pub after : (arrivals earlier expired : List A) → IsAfter event arrivals earlier expired old
      → IsAfter event arrivals (earlier ++ oldest ∷ given) (expired ++ oldest ∷ []) new

-- nothing changed: what is released and what waits is the same after any arrivals
abbrev pub IsSameAfterAny : {A : Type 0} → (A → Event) → Holding A → Holding A → Type 0
IsSameAfterAny {A} event old new =
    (arrivals released expired : List A) → IsAfter event arrivals released expired old
    → IsAfter event arrivals released expired new
