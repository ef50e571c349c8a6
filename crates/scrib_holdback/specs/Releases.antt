-- Releases, one by one. Only contracts of private functions cite this file.
use Rattle.std.specs.Prelude.{◌≡◌, ℕ, ◌+◌, ◌<◌, ◌≤◌, Bool, true, false, List, [], ◌∷◌, ◌++◌, length, filter, position, slice_get, Some}
use Rattle.std.specs.List.{AllByRecursion, list_any}
use Rattle.std.specs.Str.{bytes_eq}
use Rattle.scrib_types.specs.declared.event.Event.{Event}
use Rattle.scrib_types.specs.declared.event.Event.TheVariants.{Join, Sent, Received}
use Rattle.scrib_types.specs.Logs.{subject_of}
use Rattle.scrib_types.specs.Queues.{sent, received}
use Rattle.scrib_holdback.specs.declared.flights.Flight.{Flight}
use Rattle.scrib_holdback.specs.Reorderings.{is_own}
use Rattle.scrib_holdback.specs.Holdings.{Holding, is_between, sent_on, received_on, IsOldestWaiting}

-- by the counts the event may happen next: a reception, if more was sent on its pair than was received
abbrev pub IsReceivable : List Flight → Event → Type 0
IsReceivable flights (Join r) = Unit {0}
IsReceivable flights (Sent p q m) = Unit {0}
IsReceivable flights (Received p q m) = received_on p q flights < sent_on p q flights

-- the pair of a send or a reception has a flight
abbrev pub HasFlight : List Flight → Event → Type 0
HasFlight flights (Join r) = Unit {0}
HasFlight flights (Sent p q m) = list_any (is_between p q) flights ≡ true
HasFlight flights (Received p q m) = list_any (is_between p q) flights ≡ true

-- the flight at this index is on the pair of p and q
abbrev pub IsPairAt : (p q : List ℕ) → List Flight → ℕ → Type 0
IsPairAt p q flights i = (f : Flight) × (slice_get flights i ≡ Some f) × (is_between p q f ≡ true)

-- the flight at this index is the first on the event's pair: a join has none
abbrev pub IsFlightOf : Event → List Flight → ℕ → Type 0
IsFlightOf (Join r) flights i = Unit {0}
IsFlightOf (Sent p q m) flights i = position (is_between p q) flights ≡ Some i
IsFlightOf (Received p q m) flights i = position (is_between p q) flights ≡ Some i

-- no two flights are on one pair
abbrev pub AreDistinctFlights : List Flight → Type 0
AreDistinctFlights [] = Unit {0}
AreDistinctFlights (f ∷ flights) = (list_any (is_between f.from f.to) flights ≡ false) × AreDistinctFlights flights

-- where the first flights have one for the event, so have the second, and they are as distinct
pub record KeepsFlights (old new : List Flight) : Type 0 where
  pub has : (e : Event) → HasFlight old e → HasFlight new e
  pub distinct : AreDistinctFlights old → AreDistinctFlights new

-- the event is counted
pub record CountsEvent (e : Event) (old new : List Flight) : Type 0 where
  pub sends : (p q : List ℕ) → sent_on p q new ≡ sent_on p q old + length (sent p q (e ∷ []))
  pub receptions : (p q : List ℕ) → received_on p q new ≡ received_on p q old + length (received p q (e ∷ []))

-- the counts are the same
pub record SameCounts (old new : List Flight) : Type 0 where
  pub sends : (p q : List ℕ) → sent_on p q new ≡ sent_on p q old
  pub receptions : (p q : List ℕ) → received_on p q new ≡ received_on p q old

-- the items of the role, in order
abbrev pub own_items : {A : Type 0} → (A → Event) → List ℕ → List A → List A
own_items event r items = filter (λ x. is_own r (event x)) items

-- the event is a send to the role
abbrev pub is_send_to : List ℕ → Event → Bool
is_send_to r (Join s) = false
is_send_to r (Sent p q m) = bytes_eq r q
is_send_to r (Received p q m) = false

-- the first waiting item of the role is ready
pub record HasDue {A : Type 0} (event : A → Event) (r : List ℕ) (h : Holding A) : Type 0 where
  pub x : A
  pub others : List A
  pub first : own_items event r h.waiting ≡ x ∷ others
  pub ready : IsReceivable h.flights (event x)

-- an item of the role at this place waits, and is the first of the role
pub record WaitsAt {A : Type 0} (event : A → Event) (h : Holding A) (place : ℕ) : Type 0 where
  pub x : A
  pub role : slice_get h.roles place ≡ Some (subject_of (event x))
  pub others : List A
  pub first : own_items event (subject_of (event x)) h.waiting ≡ x ∷ others

-- the first waiting item of the role at this place is ready
pub record IsDueAt {A : Type 0} (event : A → Event) (h : Holding A) (place : ℕ) : Type 0 where
  pub waits : WaitsAt event h place
  pub ready : IsReceivable h.flights (event waits.x)

-- the first waiting item of the role at this place is ready, and the flight at this index is that of its pair
pub record IsDueOn {A : Type 0} (event : A → Event) (h : Holding A) (place pair : ℕ) : Type 0 where
  pub due : IsDueAt event h place
  pub flight : IsFlightOf (event due.waits.x) h.flights pair

-- the oldest item that waits is of the role at this place
pub record IsOldestOfRole {A : Type 0} (event : A → Event) (h : Holding A) (place : ℕ) : Type 0 where
  pub x : A
  pub role : slice_get h.roles place ≡ Some (subject_of (event x))
  pub oldest : IsOldestWaiting h.waiting x

-- nothing of the event's role waits, and the event is ready
pub record IsNextArrival {A : Type 0} (event : A → Event) (e : Event) (h : Holding A) : Type 0 where
  pub none : own_items event (subject_of e) h.waiting ≡ []
  pub ready : IsReceivable h.flights e

-- nothing waits of the event's role, nor of the role that it is sent to
pub record IsApart {A : Type 0} (event : A → Event) (e : Event) (h : Holding A) : Type 0 where
  pub none : own_items event (subject_of e) h.waiting ≡ []
  pub receivers : (r : List ℕ) → is_send_to r e ≡ true → own_items event r h.waiting ≡ []

-- no role has an item that may be released
abbrev pub IsQuiet : {A : Type 0} → (A → Event) → Holding A → Type 0
IsQuiet event h = (r : List ℕ) → HasDue event r h → ⊥

-- the arrival waits behind the others
pub record IsAppended {A : Type 0} (event : A → Event) (x : A) (old new : Holding A) : Type 0 where
  pub waiting : new.waiting ≡ old.waiting ++ x ∷ []
  pub counts : SameCounts old.flights new.flights

-- the same waits, and the counts are the same
pub record IsSameHolding {A : Type 0} (old new : Holding A) : Type 0 where
  pub waiting : new.waiting ≡ old.waiting
  pub counts : SameCounts old.flights new.flights

-- the first waiting item of a role is taken out and counted
pub record IsTakenOut {A : Type 0} (event : A → Event) (old new : Holding A) (x : A) : Type 0 where
  pub earlier : List A
  pub later : List A
  pub was : old.waiting ≡ earlier ++ x ∷ later
  pub first : own_items event (subject_of (event x)) earlier ≡ []
  pub now : new.waiting ≡ earlier ++ later
  pub counts : CountsEvent (event x) old.flights new.flights

-- the first waiting item of a role is released: it is ready
pub record IsReleasedFirst {A : Type 0} (event : A → Event) (old new : Holding A) (x : A) : Type 0 where
  pub taken : IsTakenOut event old new x
  pub ready : IsReceivable old.flights (event x)

-- the arrival, which is next, is released without waiting
pub record PassesAtOnce {A : Type 0} (event : A → Event) (x : A) (old new : Holding A) : Type 0 where
  pub next : IsNextArrival event (event x) old
  pub waiting : new.waiting ≡ old.waiting
  pub counts : CountsEvent (event x) old.flights new.flights

-- these items are released, one after another
pub data Releases {A : Type 0} (event : A → Event) (old : Holding A) : List A → Holding A → Type 0 where
  nothing : Releases event old [] old
  one_more : {given : List A} {mid new : Holding A} (x : A) → Releases event old given mid
      → IsReleasedFirst event mid new x → Releases event old (given ++ x ∷ []) new

-- the first waiting item of the role at this place is taken out, counted, and put behind the others
pub record IsTakenOnto {A : Type 0} (event : A → Event) (place : ℕ) (old new : Holding A) (released now : List A)
    : Type 0 where
  pub x : A
  pub role : slice_get old.roles place ≡ Some (subject_of (event x))
  pub taken : IsTakenOut event old new x
  pub appended : now ≡ released ++ x ∷ []

-- some of the items is a send to the role
abbrev pub sends_to : {A : Type 0} → (A → Event) → List ℕ → List A → Bool
sends_to event r items = list_any (λ x. is_send_to r (event x)) items

-- each role with an item that may be released is the receiver of one of these
abbrev pub OnlyReceivers : {A : Type 0} → (A → Event) → List A → Holding A → Type 0
OnlyReceivers event items h = (r : List ℕ) → HasDue event r h → sends_to event r items ≡ true

-- the role at this place has no item that may be released
abbrev pub IsQuietAt : {A : Type 0} → (A → Event) → ℕ → Holding A → Type 0
IsQuietAt event place h = (r : List ℕ) → slice_get h.roles place ≡ Some r → HasDue event r h → ⊥

-- items are released, and put behind the others
pub record IsDrained {A : Type 0} (event : A → Event) (old new : Holding A) (released now : List A) : Type 0 where
  pub given : List A
  pub appended : now ≡ released ++ given
  pub releases : Releases event old given new
  pub roles : new.roles ≡ old.roles

-- the bounds that a holdback keeps
pub record IsSound {A : Type 0} (event : A → Event) (waiting : List A) (flights : List Flight) (pushed : ℕ)
    : Type 0 where
  pub sends : (p q : List ℕ) → sent_on p q flights + length waiting ≤ pushed
  pub receptions : (p q : List ℕ) → received_on p q flights + length waiting ≤ pushed
  pub paired : AllByRecursion (λ x. HasFlight flights (event x)) waiting
  pub distinct : AreDistinctFlights flights
