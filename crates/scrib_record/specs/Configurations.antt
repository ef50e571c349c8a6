-- What a configuration represents of a log, and how an event changes it. Only contracts of private functions cite this
-- file.
use Rattle.std.specs.Prelude.{◌≡◌, ℕ, Bool, true, false, List, [], ◌∷◌, ◌++◌, length, map, slice_get, Option, Some, None, All}
use Rattle.scrib_types.specs.declared.message.Message.{Message}
use Rattle.scrib_types.specs.declared.event.Action.{Action}
use Rattle.scrib_types.specs.declared.event.Action.TheVariants.{Join, Sends, Receives}
use Rattle.scrib_types.specs.declared.event.Event.{Event}
use Rattle.scrib_types.specs.declared.event.Event.TheVariants as event
use Rattle.scrib_types.specs.Agreement.{Agreement}
use Rattle.scrib_types.specs.Logs.{own_actions, has_joined}
use Rattle.scrib_types.specs.Queues.{sent, received}
use Rattle.scrib_machine.specs.declared.machine.Edge.{Edge}
use Rattle.scrib_machine.specs.Machines.{Path}
use Rattle.scrib_queues.specs.Channels.{Channels, SameQueues, queue_of}
use Rattle.scrib_record.specs.declared.role_state.RoleState.{RoleState}
use Rattle.scrib_record.specs.declared.configuration.Configuration.{Configuration}
use Rattle.scrib_record.specs.declared.exchanges.Exchange.{Exchange}
use Rattle.scrib_record.specs.Exchanges.{Numbered, IsNumberingOf}
use Rattle.scrib_record.specs.Following.{MayFollow}
use Rattle.scrib_record.specs.Places.{place_in}
use Rattle.scrib_record.specs.RoleMachines.{AreMachinesOf}

-- the state of the role at this place after the log: whether it joined, and the machine state that its actions lead to
pub record IsRoleState (ms : List (List (List Edge))) (log : List Event) (role : List ℕ) (i : ℕ)
    (s : RoleState) : Type 0 where
  pub machine : List (List Edge)
  pub runs : slice_get ms i ≡ Some machine
  pub joined : s.joined ≡ has_joined role log
  pub led : Path machine 0 (own_actions role log) s.state

-- a state for each role, as it is after the log
abbrev pub AreRoleStates : Agreement → List (List (List Edge)) → List Event → List RoleState → Type 0
AreRoleStates a ms log role_states =
    (r : List ℕ) (i : ℕ) → place_in a.roles r ≡ Some i → (s : RoleState) × (slice_get role_states i ≡ Some s)
    × IsRoleState ms log r i s

-- the message of an exchange, if there is one
abbrev pub message_in : Option Exchange → Message
message_in None = record { op = None; payload = [] }
message_in (Some x) = x.message

-- the message of the exchange of this number
abbrev pub message_at : List Exchange → ℕ → Message
message_at es k = message_in (slice_get es k)

-- the messages in flight from a sender's place to a receiver's, the oldest first
abbrev pub Flight : Type 0
Flight = (from to : ℕ) → List Message

-- the messages whose numbers are queued
abbrev pub flight_of : List Exchange → Channels ℕ → Flight
flight_of es queues i j = map (message_at es) (queue_of queues i j)

-- the exchanges of a numbering, if there is one
abbrev pub exchanges_of : Option Numbered → List Exchange
exchanges_of None = []
exchanges_of (Some n) = n.exchanges

-- the messages in flight in the configuration
abbrev pub in_flight : Configuration → Flight
in_flight c = flight_of (exchanges_of c.numbering) c.queues

-- the number is that of an exchange from place i to place j
abbrev pub IsBetween : List Exchange → (i j : ℕ) → ℕ → Type 0
IsBetween es i j k = (x : Exchange) × (slice_get es k ≡ Some x) × (x.from ≡ i) × (x.to ≡ j)

-- each queue contains numbers of exchanges between its places
abbrev pub AreQueued : List Exchange → Channels ℕ → Type 0
AreQueued es queues = (i j : ℕ) → All (IsBetween es i j) (queue_of queues i j)

-- there is a numbering, and it is that of the machines
abbrev pub IsNumberedBy : List (List ℕ) → List (List (List Edge)) → Option Numbered → Type 0
IsNumberedBy roles ms None = ⊥
IsNumberedBy roles ms (Some n) = IsNumberingOf roles ms n.exchanges n.machines

-- in flight is what was sent and not yet received
abbrev pub AreFlying : Agreement → List Event → Flight → Type 0
AreFlying a log flight =
    (p q : List ℕ) (i j : ℕ) → place_in a.roles p ≡ Some i → place_in a.roles q ≡ Some j
    → sent p q log ≡ received p q log ++ flight i j

-- the log leads to the configuration
pub record LeadsTo (a : Agreement) (ms : List (List (List Edge))) (log : List Event) (c : Configuration) : Type 0 where
  pub role_states : length c.role_states.items ≡ length a.roles
  pub queues : c.queues.roles ≡ length a.roles
  pub states_are : AreRoleStates a ms log c.role_states.items
  pub follow : AreMachinesOf a ms
  pub numbered : IsNumberedBy a.roles ms c.numbering
  pub queued : AreQueued (exchanges_of c.numbering) c.queues
  pub flying : AreFlying a log (in_flight c)

-- some log leads to the configuration
abbrev pub IsReached : Agreement → List (List (List Edge)) → Configuration → Type 0
IsReached a ms c = (log : List Event) × LeadsTo a ms log c

-- the same states of roles, and the same messages in flight
pub record IsSameConfiguration (c d : Configuration) : Type 0 where
  pub role_states : d.role_states.items ≡ c.role_states.items
  pub roles : d.queues.roles ≡ c.queues.roles
  pub messages : SameQueues c.queues d.queues
  pub numbering : d.numbering ≡ c.numbering

-- between all other places than p and q the same is in flight
abbrev pub Others : ℕ → ℕ → Flight → Flight → Type 0
Others p q old new = (i j : ℕ) → ¬ ((i ≡ p) × (j ≡ q)) → new i j ≡ old i j

-- the oldest message from place p to place q is this one
abbrev pub IsAtFront : ℕ → ℕ → Message → Flight → Type 0
IsAtFront p q m flight = (rest : List Message) × (flight p q ≡ m ∷ rest)

-- the messages in flight allow the action of the role at this place: a reception is of the oldest message
abbrev pub IsEnabled : List (List ℕ) → Flight → ℕ → Action → Type 0
IsEnabled roles flight at Join = ⊥
IsEnabled roles flight at (Sends q m) = Unit {0}
IsEnabled roles flight at (Receives p m) = (i : ℕ) × (place_in roles p ≡ Some i) × IsAtFront i at m flight

-- the event is a send, or a reception
abbrev pub IsSend : Event → Type 0
IsSend e = (p q : List ℕ) × (m : Message) × (e ≡ event.Sent p q m)

abbrev pub IsReception : Event → Type 0
IsReception e = (p q : List ℕ) × (m : Message) × (e ≡ event.Received p q m)

-- the event may follow the log, and the two lead to the configuration, or it may not, and the log leads to it
abbrev pub IsNext : Agreement → List (List (List Edge)) → List Event → Event → Configuration → Bool → Type 0
IsNext a ms log e c true = MayFollow a log e × LeadsTo a ms (log ++ e ∷ []) c
IsNext a ms log e c false = (MayFollow a log e → ⊥) × LeadsTo a ms log c

-- the result at an event, for each log that leads to the old configuration
abbrev pub Advances : Agreement → List (List (List Edge)) → Event → Configuration → Configuration → Bool → Type 0
Advances a ms e old new moved = (log : List Event) → LeadsTo a ms log old → IsNext a ms log e new moved
