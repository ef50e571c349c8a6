-- Why an event may not follow a permitted log (this project's own). Of the reasons that apply to a kind of event the
-- first that holds is the reason, so each definition says that those before it don't hold.
use Rattle.std.specs.Prelude.{◌≡◌, ◌≢◌, ◌⊎◌, ℕ, Bool, true, false, ◌&&◌, List, [], ◌∷◌, ◌++◌, Option, Some, None}
use Rattle.scrib_types.specs.declared.message.Message.{Message}
use Rattle.scrib_types.specs.declared.event.Action.{Action}
use Rattle.scrib_types.specs.declared.event.Event.{Event}
use Rattle.scrib_types.specs.declared.event.Event.TheVariants.{Join, Sent, Received}
use Rattle.scrib_types.specs.Trees.{LocalTree}
use Rattle.scrib_types.specs.WellFormed.{has_role}
use Rattle.scrib_types.specs.Agreement.{Agreement}
use Rattle.scrib_types.specs.Permitted.{IsPermitted}
use Rattle.scrib_types.specs.Logs.{subject_of, action_of, is_action, has_joined}
use Rattle.scrib_types.specs.Queues.{flights}
use Rattle.scrib_types.specs.Traces.{LocalTransition}
use Rattle.scrib_global.specs.Next.{IsTypeAfter}
use Rattle.scrib_reasons.specs.declared.reason.Reason.{Reason}
use Rattle.scrib_reasons.specs.declared.reason.Reason.TheVariants.{NotDeclared, JoinedTwice, NotJoined, Done, NotAllowed, NotSent, OtherFirst}

-- each role that the event names is declared
abbrev pub names_declared : List (List ℕ) → Event → Bool
names_declared roles (Join r) = has_role r roles
names_declared roles (Sent p q m) = has_role p roles && has_role q roles
names_declared roles (Received p q m) = has_role p roles && has_role q roles

-- the local type makes the action
abbrev pub Makes : LocalTree → Action → Type 0
Makes l act = (k : LocalTree) × LocalTransition l act k

-- a send or a reception of declared roles, whose subject has joined, with this local type left to it
pub record IsReady (a : Agreement) (log : List Event) (e : Event) (left : LocalTree) : Type 0 where
  pub declared : names_declared a.roles e ≡ true
  pub acts : is_action e ≡ true
  pub joined : has_joined (subject_of e) log ≡ true
  pub after : IsTypeAfter a.global log (subject_of e) left

-- a role that the event names isn't declared
abbrev pub IsNotDeclared : Agreement → List Event → Event → Type 0
IsNotDeclared a log e = names_declared a.roles e ≡ false

-- a declared role joins that has joined
pub record IsJoinedTwice (a : Agreement) (log : List Event) (e : Event) : Type 0 where
  pub declared : names_declared a.roles e ≡ true
  pub joins : is_action e ≡ false
  pub joined : has_joined (subject_of e) log ≡ true

-- a send or a reception of declared roles, whose subject hasn't joined
pub record IsNotJoined (a : Agreement) (log : List Event) (e : Event) : Type 0 where
  pub declared : names_declared a.roles e ≡ true
  pub acts : is_action e ≡ true
  pub absent : has_joined (subject_of e) log ≡ false

-- the subject is ready, and its local type makes no action
pub record IsDone (a : Agreement) (log : List Event) (e : Event) : Type 0 where
  pub left : LocalTree
  pub ready : IsReady a log e left
  pub ended : (act : Action) → Makes left act → ⊥

-- the subject is ready, and its local type makes some action, but not this one
pub record IsNotAllowed (a : Agreement) (log : List Event) (e : Event) : Type 0 where
  pub left : LocalTree
  pub ready : IsReady a log e left
  pub other : Action
  pub makes : Makes left other
  pub refuses : Makes left (action_of e) → ⊥

-- the subject is ready, and its local type makes this action
pub record IsOffered (a : Agreement) (log : List Event) (e : Event) : Type 0 where
  pub left : LocalTree
  pub ready : IsReady a log e left
  pub makes : Makes left (action_of e)

-- a reception that is offered, and nothing is in flight from the sender to the receiver
abbrev pub IsNotSent : Agreement → List Event → Event → Type 0
IsNotSent a log (Join r) = ⊥
IsNotSent a log (Sent p q m) = ⊥
IsNotSent a log (Received p q m) = IsOffered a log (Received p q m) × (flights p q log ≡ [])

-- a reception that is offered, and another message is the oldest in flight from the sender to the receiver
abbrev pub IsOtherFirst : Agreement → List Event → Event → Type 0
IsOtherFirst a log (Join r) = ⊥
IsOtherFirst a log (Sent p q m) = ⊥
IsOtherFirst a log (Received p q m) =
    IsOffered a log (Received p q m) × (n : Message) × (w : List Message) × (flights p q log ≡ n ∷ w) × (n ≢ m)

-- the reason holds of the event after the log
abbrev pub IsBecause : Agreement → List Event → Event → Reason → Type 0
IsBecause a log e NotDeclared = IsNotDeclared a log e
IsBecause a log e JoinedTwice = IsJoinedTwice a log e
IsBecause a log e NotJoined = IsNotJoined a log e
IsBecause a log e Done = IsDone a log e
IsBecause a log e NotAllowed = IsNotAllowed a log e
IsBecause a log e NotSent = IsNotSent a log e
IsBecause a log e OtherFirst = IsOtherFirst a log e

-- the log is permitted with the event after it, and no reason holds
pub record MayFollow (a : Agreement) (log : List Event) (e : Event) : Type 0 where
  pub permitted : IsPermitted a (log ++ e ∷ [])
  pub none : (r : Reason) → IsBecause a log e r → ⊥

-- the log isn't permitted with the event after it, and this reason alone holds
pub record MayNotFollow (a : Agreement) (log : List Event) (e : Event) (r : Reason) : Type 0 where
  pub refused : IsPermitted a (log ++ e ∷ []) → ⊥
  pub because : IsBecause a log e r
  pub only : (other : Reason) → IsBecause a log e other → other ≡ r

-- the event may follow the log, or it may not, for one reason
abbrev pub HasOneReason : Agreement → List Event → Event → Type 0
HasOneReason a log e = MayFollow a log e ⊎ ((r : Reason) × MayNotFollow a log e r)

-- of every event after a permitted log: it may follow, or it may not, for one reason
abbrev pub DeterminesReason : Agreement → Type 0
DeterminesReason a = (log : List Event) → IsPermitted a log → (e : Event) → HasOneReason a log e

-- the reason why the event may not follow the log, or none where it may
abbrev pub FindsReason : Agreement → List Event → Event → Option Reason → Type 0
FindsReason a log e None = MayFollow a log e
FindsReason a log e (Some r) = MayNotFollow a log e r
