-- Tests that find the reason why an event may not follow a permitted log (this project's own).
-- Only contracts of private functions cite this file.
use Rattle.std.specs.Prelude.{ℕ, Bool, true, false, ◌&&◌, ◌||◌, List, Option, Some, None, if◌then◌else◌}
use Rattle.std.specs.Str.{bytes_eq}
use Rattle.scrib_types.specs.declared.message.Message.{Message}
use Rattle.scrib_types.specs.declared.event.Event.{Event}
use Rattle.scrib_types.specs.declared.event.Event.TheVariants.{Join, Sent, Received}
use Rattle.scrib_types.specs.Trees.{LocalTree, LocalEnd, LocalVar, LocalRec, Send, Recv, LocalBranches, NoChoice, Choice}
use Rattle.scrib_types.specs.Same.{same_message}
use Rattle.scrib_types.specs.Queues.{flights}
use Rattle.scrib_global.specs.Next.{oldest_of}
use Rattle.scrib_reasons.specs.declared.reason.Reason.{Reason}
use Rattle.scrib_reasons.specs.declared.reason.Reason.TheVariants.{Done, NotAllowed, NotSent, OtherFirst}

-- some branch has the message
abbrev pub has_message : Message → LocalBranches → Bool
has_message m NoChoice = false
has_message m (Choice n l ls) = same_message m n || has_message m ls

-- the event is a send to q of some branch's message
abbrev pub sends_one : List ℕ → LocalBranches → Event → Bool
sends_one q ls (Join r) = false
sends_one q ls (Sent s t m) = bytes_eq t q && has_message m ls
sends_one q ls (Received s t m) = false

-- the event is a reception from p of some branch's message
abbrev pub receives_one : List ℕ → LocalBranches → Event → Bool
receives_one p ls (Join r) = false
receives_one p ls (Sent s t m) = false
receives_one p ls (Received s t m) = bytes_eq s p && has_message m ls

-- the first choice of the local type has the event; a recursion's is that of its body
abbrev pub has_choice : LocalTree → Event → Bool
has_choice LocalEnd e = false
has_choice (LocalVar n) e = false
has_choice (LocalRec body) e = has_choice body e
has_choice (Send q ls) e = sends_one q ls e
has_choice (Recv p ls) e = receives_one p ls e

-- the reason against the reception of a message, where this is the oldest in flight
abbrev pub reason_by_oldest : Message → (oldest : Option Message) → Option Reason
reason_by_oldest m None = Some NotSent
reason_by_oldest m (Some n) = if same_message n m then None else Some OtherFirst

-- the reason against an event that the local type makes
abbrev pub reason_by_flights : List Event → Event → Option Reason
reason_by_flights log (Join r) = None
reason_by_flights log (Sent p q m) = None
reason_by_flights log (Received p q m) = reason_by_oldest m (oldest_of (flights p q log))

-- the local type is at its end
abbrev pub is_end : LocalTree → Bool
is_end LocalEnd = true
is_end (LocalVar n) = false
is_end (LocalRec body) = false
is_end (Send q ls) = false
is_end (Recv p ls) = false

-- the reason against an event whose subject is ready, with this local type left to it
abbrev pub reason_by_type : LocalTree → List Event → Event → Option Reason
reason_by_type l log e =
    if is_end l then Some Done else (if has_choice l e then reason_by_flights log e else Some NotAllowed)
