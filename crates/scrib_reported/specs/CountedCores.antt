-- The state of a monitor that counts (this project's own). Only contracts of private functions cite this file.
use Rattle.scrib_core.specs.Answers.{State}
use Rattle.scrib_core.specs.Held as held
use Rattle.scrib_reported.specs.declared.counted_core.CountedCore.{CountedCore}

-- the state of a monitor that counts
abbrev pub state_of : CountedCore → State
state_of c = held.state_of c.core
