-- The parts of a log (this project's own).
use Rattle.std.specs.Prelude.{◌≡◌, ℕ, Bool, true, false, ◌&&◌, List, ◌∷◌, ◌++◌, map}
use Rattle.std.specs.List.{filter, list_any}
use Rattle.std.specs.Str.{bytes_eq}
use Rattle.scrib_types.specs.declared.event.Action.TheVariants as action
use Rattle.scrib_types.specs.declared.event.Action.{Action}
use Rattle.scrib_types.specs.declared.event.Event.TheVariants as event
use Rattle.scrib_types.specs.declared.event.Event.{Event}
use Rattle.scrib_types.specs.WellFormed.{has_role}

-- the role that acts: the sender of a send, the receiver of a reception, or the role that joins
abbrev pub subject_of : Event → List ℕ
subject_of (event.Join r) = r
subject_of (event.Sent p q m) = p
subject_of (event.Received p q m) = q

-- the event as an action of its subject
abbrev pub action_of : Event → Action
action_of (event.Join r) = action.Join
action_of (event.Sent p q m) = action.Sends q m
action_of (event.Received p q m) = action.Receives p m

-- the event that is this action of the role
abbrev pub event_of : List ℕ → Action → Event
event_of r action.Join = event.Join r
event_of r (action.Sends q m) = event.Sent r q m
event_of r (action.Receives p m) = event.Received p r m

-- a send or a reception
abbrev pub is_action : Event → Bool
is_action (event.Join r) = false
is_action (event.Sent p q m) = true
is_action (event.Received p q m) = true

-- a send or a reception of the role
abbrev pub is_action_of : List ℕ → Event → Bool
is_action_of r e = is_action e && bytes_eq r (subject_of e)

-- the role's join
abbrev pub is_join_of : List ℕ → Event → Bool
is_join_of r (event.Join s) = bytes_eq r s
is_join_of r (event.Sent p q m) = false
is_join_of r (event.Received p q m) = false

-- the sends and receptions of a log, in order
abbrev pub actions : List Event → List Event
actions log = filter is_action log

-- what the role sent and received, in order
abbrev pub own_actions : List ℕ → List Event → List Action
own_actions r log = map action_of (filter (is_action_of r) log)

-- the role joined
abbrev pub has_joined : List ℕ → List Event → Bool
has_joined r log = list_any (is_join_of r) log

-- After this log the event follows the rule of joins. A declared role that hasn't joined may join. The subject of a
-- send or a reception has joined.
abbrev pub IsJoined : List (List ℕ) → List Event → Event → Type 0
IsJoined roles before (event.Join r) = (has_role r roles ≡ true) × (has_joined r before ≡ false)
IsJoined roles before (event.Sent p q m) = has_joined p before ≡ true
IsJoined roles before (event.Received p q m) = has_joined q before ≡ true

-- joined beforehand: only declared roles join, each at most once, and each before its own first action
abbrev pub AllJoined : List (List ℕ) → List Event → Type 0
AllJoined roles log = (before after : List Event) (e : Event) → log ≡ before ++ e ∷ after → IsJoined roles before e
