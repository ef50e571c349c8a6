-- The text that `show` prints of an open conversation (this project's own).
use Rattle.std.specs.Prelude.{ℕ, ◌+◌, Bool, true, false, List, ◌++◌, length, codes}
use Rattle.scrib_global.specs.declared.explain.Flight.{Flight}
use Rattle.scrib_global.specs.declared.next.RoleStatus.{RoleStatus}
use Rattle.scrib_reasons.specs.declared.reason.Reason.{Reason}
use Rattle.scrib_core.specs.World.{Conversation}
use Rattle.scrib_cli.specs.NextLines.{next_lines}
use Rattle.scrib_show.specs.ShownLines.{head_line, permitted_text, offence_text, events_text, flights_line}

-- a conversation whose protocol is not in the library: the first line, and the last events
abbrev pub withdrawn_page : Conversation → (stale : Bool) (numbers : List ℕ) → List ℕ
withdrawn_page c stale numbers =
    head_line c.name (length c.log) stale (codes "withdrawn") ++ events_text (length c.log) false numbers c.log

-- a permitted log: the first line, the last events, the messages in flight, and what each role may do next
abbrev pub permitted_page : Conversation → (stale : Bool) (numbers : List ℕ) → (complete : Bool) → List Flight
    → List RoleStatus → List ℕ
permitted_page c stale numbers complete flights roles =
    head_line c.name (length c.log) stale (permitted_text complete)
    ++ events_text (length c.log) false numbers c.log ++ flights_line false flights ++ next_lines roles

-- A log with an offence of this role at the index, from 0: the first line, the last events up to the offence, and the
-- messages in flight and the roles before it.
abbrev pub offence_page : Conversation → (stale : Bool) (numbers : List ℕ) → (i : ℕ) (role : List ℕ) → Reason
    → List Flight → List RoleStatus → List ℕ
offence_page c stale numbers i role reason flights roles =
    head_line c.name (length c.log) stale (offence_text (i + 1) role reason)
    ++ events_text (i + 1) true numbers c.log ++ flights_line true flights ++ next_lines roles
