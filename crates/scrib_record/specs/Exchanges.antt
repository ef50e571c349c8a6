-- Exchanges by number, and edges by the numbers of their exchanges (this project's own). Only contracts of private
-- functions cite this file.
use Rattle.std.specs.Prelude.{◌≡◌, ◌⊎◌, ℕ, ◌<◌, true, List, [], ◌∷◌, ◌++◌, length, get_or, slice_get, Some}
use Rattle.std.specs.List.{AllZip}
use Rattle.std.specs.Str.{bytes_eq}
use Rattle.std.proofs.lemmas.Slice.Eq.{bytes_eq-Decides}
use Rattle.scrib_types.specs.declared.message.Message.{Message}
use Rattle.scrib_types.specs.declared.event.Action.TheVariants as action
use Rattle.scrib_types.specs.declared.event.Event.{Event}
use Rattle.scrib_types.specs.declared.event.Event.TheVariants as event
use Rattle.scrib_types.specs.Flat.{message_bytes}
use Rattle.scrib_types.specs.FlatEvents.{event_bytes, exchange_bytes}
use Rattle.scrib_types.proofs.FlatFormLemmas.{event_bytes-injective}
use Rattle.scrib_machine.specs.declared.machine.Edge.{Edge}
use Rattle.scrib_record.specs.declared.exchanges.Exchange.{Exchange}
use Rattle.scrib_record.specs.declared.exchanges.Located.{Located}
use Rattle.scrib_record.specs.declared.numbered_edge.NumberedEdge.{NumberedEdge}
use Rattle.scrib_record.specs.declared.numbered_edge.NumberedEdge.TheVariants.{Joins, Sends, Receives}
use Rattle.scrib_record.specs.declared.version.Edition.{Edition}
use Rattle.scrib_record.specs.Places.{place_in}

abbrev pub no_exchanges : List Exchange
no_exchanges = []

-- the send of the message
abbrev pub send_of : List ℕ → List ℕ → Message → Event
send_of p q m = event.Sent p q m

-- the bytes by which exchanges are compared: those of the send
abbrev pub send_bytes : Exchange → List ℕ
send_bytes x = event_bytes x.send

-- what is hashed of an event: the names of its roles, and the bytes of its message
abbrev pub hashed_parts : Event → List (List ℕ)
hashed_parts (event.Join r) = r ∷ []
hashed_parts (event.Sent p q m) = p ∷ q ∷ message_bytes m ∷ []
hashed_parts (event.Received p q m) = p ∷ q ∷ message_bytes m ∷ []

-- equal exchanges are hashed alike
pub hashed_alike : (x y : Exchange) → bytes_eq (send_bytes x) (send_bytes y) ≡ true → hashed_parts x.send ≡ hashed_parts y.send
hashed_alike x y t i = hashed_parts (event_bytes-injective x.send y.send ((bytes_eq-Decides (send_bytes x) (send_bytes y)).0 t) i)

-- the exchange is that of a message between two of the roles
pub record IsExchange (roles : List (List ℕ)) (x : Exchange) : Type 0 where
  pub sender : List ℕ
  pub receiver : List ℕ
  pub send : x.send ≡ event.Sent sender receiver x.message
  pub from : place_in roles sender ≡ Some x.from
  pub to : place_in roles receiver ≡ Some x.to

-- the exchange of this number is one of the event
pub record IsNumberOf (es : List Exchange) (e : Event) (k : ℕ) : Type 0 where
  pub exchange : Exchange
  pub here : slice_get es k ≡ Some exchange
  pub same : exchange_bytes exchange.send ≡ exchange_bytes e

-- the exchange of the event, with its places
pub record IsLocated (es : List Exchange) (e : Event) (l : Located) : Type 0 where
  pub exchange : Exchange
  pub here : slice_get es l.number ≡ Some exchange
  pub same : exchange_bytes exchange.send ≡ exchange_bytes e
  pub from : l.from ≡ exchange.from
  pub to : l.to ≡ exchange.to

-- no exchange is one of the event
abbrev pub IsAbsent : List Exchange → Event → Type 0
IsAbsent es e = (k : ℕ) → IsNumberOf es e k → ⊥

-- the number is that of an exchange with the same bytes
abbrev pub IsNumbered : List Exchange → Exchange → ℕ → Type 0
IsNumbered es x k = IsNumberOf es x.send k

-- no exchange has this send
abbrev pub IsNew : List Exchange → Event → Type 0
IsNew es e = (k : ℕ) (x : Exchange) → slice_get es k ≡ Some x → x.send ≡ e → ⊥

-- the exchange was there, or it is appended and was not there
abbrev pub AreMore : List Exchange → Exchange → List Exchange → Type 0
AreMore old x new = (new ≡ old) ⊎ (IsNew old x.send × (new ≡ old ++ x ∷ []))

-- each exchange is between two of the roles, and no two are the same
pub record AreExchanges (roles : List (List ℕ)) (es : List Exchange) : Type 0 where
  pub each : (k : ℕ) (x : Exchange) → slice_get es k ≡ Some x → IsExchange roles x
  pub distinct : (i k : ℕ) (x : Exchange) → slice_get es i ≡ Some x → IsNumberOf es x.send k → i ≡ k

-- each exchange keeps its number
abbrev pub KeepsNumbers : List Exchange → List Exchange → Type 0
KeepsNumbers old new = (k : ℕ) (x : Exchange) → slice_get old k ≡ Some x → slice_get new k ≡ Some x

-- the numbered edge is this edge of the role's machine
abbrev pub IsEdge : List Exchange → List ℕ → NumberedEdge → Edge → Type 0
IsEdge es role Joins e = e.action ≡ action.Join
IsEdge es role (Sends k n) e =
    (q : List ℕ) × (m : Message) × (e ≡ record { action = action.Sends q m; next = n })
    × IsNumberOf es (event.Sent role q m) k
IsEdge es role (Receives k n) e =
    (p : List ℕ) × (m : Message) × (e ≡ record { action = action.Receives p m; next = n })
    × IsNumberOf es (event.Received p role m) k

-- the numbered rows are those of the role's machine
abbrev pub AreRows : List Exchange → List ℕ → List (List NumberedEdge) → List (List Edge) → Type 0
AreRows es role rows m = AllZip (AllZip (IsEdge es role)) rows m

-- the edges of the state, or none
abbrev pub row_of : List (List NumberedEdge) → ℕ → List NumberedEdge
row_of rows state = get_or rows state []

-- the edges of the state of the machine at this place, or none
abbrev pub row_at : List (List (List NumberedEdge)) → (place state : ℕ) → List NumberedEdge
row_at machines place state = row_of (get_or machines place []) state

-- there is a machine at this place, and it has this state
pub record HasRow (machines : List (List (List NumberedEdge))) (place state : ℕ) : Type 0 where
  pub place_within : place < length machines
  pub state_within : state < length (get_or machines place [])

-- a version, its exchanges, and the rows of each role's machine by their numbers
pub record Numbered : Type 0 where
  pub version : Edition
  pub exchanges : List Exchange
  pub machines : List (List (List NumberedEdge))

-- the exchanges and edges of these machines of the roles, in the order of the roles
pub record IsNumberingOf (roles : List (List ℕ)) (ms : List (List (List Edge))) (es : List Exchange)
    (ns : List (List (List NumberedEdge))) : Type 0 where
  pub exchanges : AreExchanges roles es
  pub count : length ns ≡ length ms
  pub rows : (i : ℕ) (role : List ℕ) (m : List (List Edge)) → slice_get roles i ≡ Some role → slice_get ms i ≡ Some m
      → (rows : List (List NumberedEdge)) × (slice_get ns i ≡ Some rows) × AreRows es role rows m
