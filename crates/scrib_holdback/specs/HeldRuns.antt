-- The law of held arrivals over runs of the protocol (this project's own).
use Rattle.std.specs.Prelude.{◌≡◌, ◌↔◌, List, [], ◌++◌}
use Rattle.scrib_types.specs.declared.event.Event.{Event}
use Rattle.scrib_types.specs.Agreement.{Agreement}
use Rattle.scrib_global.specs.Simulation.{IsJoinedRun}
use Rattle.scrib_holdback.specs.Reorderings.{IsReordering}

-- some reordering of the log is a run of the protocol with lawful joins
abbrev pub IsRunInSomeOrder : Agreement → List Event → Type 0
IsRunInSomeOrder a log = (other : List Event) × IsReordering log other × IsJoinedRun a other

-- what was released, and then what waits, is a run exactly where some reordering of the arrivals is: then nothing waits
pub record IsExactOverRuns (a : Agreement) (arrivals released waiting : List Event) : Type 0 where
  pub run : IsJoinedRun a (released ++ waiting) ↔ IsRunInSomeOrder a arrivals
  pub none_waits : IsRunInSomeOrder a arrivals → waiting ≡ []
