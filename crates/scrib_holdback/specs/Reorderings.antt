-- Reorderings of a log: what other orders of arrival the same roles could have brought about (this project's own; an
-- interleaving of the roles' own orders, as in Lamport, CACM 1978).
use Rattle.std.specs.Prelude.{◌≡◌, ℕ, Bool, List}
use Rattle.std.specs.List.{filter}
use Rattle.std.specs.Str.{bytes_eq}
use Rattle.scrib_types.specs.declared.event.Event.{Event}
use Rattle.scrib_types.specs.Logs.{subject_of}

-- the event is the role's own: the role acts in it
abbrev pub is_own : List ℕ → Event → Bool
is_own r e = bytes_eq r (subject_of e)

-- the role's own events, in order
abbrev pub own_events : List ℕ → List Event → List Event
own_events r log = filter (is_own r) log

-- the same events, those of each role in the same order: each event is the own event of one role
abbrev pub IsReordering : List Event → List Event → Type 0
IsReordering log other = (r : List ℕ) → own_events r other ≡ own_events r log
