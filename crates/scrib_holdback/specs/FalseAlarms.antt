-- The law of held arrivals: the order of arrival alone makes no offence (this project's own).
use Rattle.std.specs.Prelude.{◌≡◌, ◌↔◌, List, [], ◌++◌, map}
use Rattle.scrib_types.specs.declared.event.Event.{Event}
use Rattle.scrib_types.specs.Agreement.{Agreement}
use Rattle.scrib_types.specs.Permitted.{IsPermitted}
use Rattle.scrib_holdback.specs.Reorderings.{IsReordering}
use Rattle.scrib_holdback.specs.HoldBack.{IsHeldBack}

-- the protocol permits some reordering of the log
abbrev pub IsPermittedInSomeOrder : Agreement → List Event → Type 0
IsPermittedInSomeOrder a log = (other : List Event) × IsReordering log other × IsPermitted a other

-- what was released, and then what waits, is permitted exactly where some reordering of the arrivals is: then nothing
-- waits
pub record IsExact (a : Agreement) (arrivals released waiting : List Event) : Type 0 where
  pub permitted : IsPermitted a (released ++ waiting) ↔ IsPermittedInSomeOrder a arrivals
  pub none_waits : IsPermittedInSomeOrder a arrivals → waiting ≡ []

-- what was released of the first arrivals is a beginning of what was released of all
pub record BeginsWith {X : Type 0} (event : X → Event) (arrivals released : List X) : Type 0 where
  pub early : List X
  pub waiting : List X
  pub late : List X
  pub held : IsHeldBack event arrivals early waiting
  pub begins : released ≡ early ++ late

-- of each role the same was released of both, and the same waits
abbrev pub IsSameForEach : (released waiting others rest : List Event) → Type 0
IsSameForEach released waiting others rest = IsReordering released others × IsReordering waiting rest

-- The law. It holds of every protocol. What is held is a reordering of what arrived. No offence is reported early: what
-- was released of any first arrivals is a beginning. Whatever order the same events arrive in, what is released of a
-- role is the same.
pub record RaisesNoFalseAlarm {X : Type 0} (event : X → Event) (arrivals released waiting : List X) : Type 0 where
  pub exact : (a : Agreement) → IsExact a (map event arrivals) (map event released) (map event waiting)
  pub reordering : IsReordering (map event arrivals) (map event (released ++ waiting))
  pub beginnings : (first more : List X) → arrivals ≡ first ++ more → BeginsWith event first released
  pub own_orders : (others early rest : List X) → IsReordering (map event arrivals) (map event others)
      → IsHeldBack event others early rest
      → IsSameForEach (map event released) (map event waiting) (map event early) (map event rest)
