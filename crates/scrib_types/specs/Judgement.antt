-- The judgement of a whole log (this project's own).
use Rattle.std.specs.Prelude.{◌≡◌, ◌≢◌, ℕ, ◌+◌, ◌<◌, List, [], ◌∷◌, ◌++◌, length, take, Option, Some, None, Contains, AllPairs, ◌↔◌}
use Rattle.std.specs.Ordering.{nat_cmp}
use Rattle.std.specs.declared.cmp.Ordering.TheVariants.{Greater}
use Rattle.std.specs.Cmp.Lexicographic.{slice_cmp}
use Rattle.scrib_types.specs.declared.event.Action.{Action}
use Rattle.scrib_types.specs.declared.event.Event.{Event}
use Rattle.scrib_types.specs.declared.event.Verdict.{Verdict}
use Rattle.scrib_types.specs.declared.event.Verdict.TheVariants.{Permitted, Offence, Withdrawn}
use Rattle.scrib_types.specs.Agreement.{Agreement}
use Rattle.scrib_types.specs.Logs.{subject_of, event_of}
use Rattle.scrib_types.specs.Permitted.{IsPermitted}
use Rattle.scrib_types.specs.Texts.{action_text}

-- b is another action, and its printed text is no less than a's in byte order
abbrev pub ComesBefore : Action → Action → Type 0
ComesBefore a b = (a ≢ b) × (slice_cmp nat_cmp (action_text a) (action_text b) ≢ Greater)

-- these are exactly the actions that the role may make after the log, sorted by their printed texts, none twice
pub record AreAllowed (a : Agreement) (log : List Event) (role : List ℕ) (allowed : List Action) : Type 0 where
  pub sorted : AllPairs ComesBefore allowed
  pub exact : (act : Action) → Contains allowed act ↔ IsPermitted a (log ++ event_of role act ∷ [])

-- The shortest beginning of the log that isn't permitted ends with this event, at this place from 1. Its role
-- was allowed these actions there.
pub record IsOffence (a : Agreement) (log : List Event) (place : ℕ) (role : List ℕ) (allowed : List Action)
    : Type 0 where
  pub before : List Event
  pub event : Event
  pub after : List Event
  pub here : log ≡ before ++ event ∷ after
  pub counted : place ≡ length before + 1
  pub least : (n : ℕ) → n < place → IsPermitted a (take n log)
  pub offends : IsPermitted a (before ++ event ∷ []) → ⊥
  pub by : role ≡ subject_of event
  pub allows : AreAllowed a before role allowed

-- the verdict on a log whose protocol has this meaning, or is not in the library
abbrev pub Judges : Option Agreement → List Event → Verdict → Type 0
Judges None log Withdrawn = Unit {0}
Judges (Some a) log Permitted = IsPermitted a log
Judges (Some a) log (Offence place role allowed) = IsOffence a log place role allowed
Judges _ log _ = ⊥
