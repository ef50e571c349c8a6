-- Monitors that keep whether a step was refused memory (this project's own).
use Rattle.std.specs.Prelude.{◌≡◌, ◌≢◌, false, List, All}
use Rattle.scrib_core.specs.declared.reply.Refusal.TheVariants.{OutOfMemory}
use Rattle.scrib_core.specs.declared.reply.Reply.{Reply}
use Rattle.scrib_core.specs.declared.reply.Reply.TheVariants as reply
use Rattle.scrib_core.specs.Answers.{State}
use Rattle.scrib_core.specs.Held as held
use Rattle.scrib_labelled.specs.declared.checked_core.CheckedCore.{CheckedCore}

-- the state of the monitor
abbrev pub state_of : CheckedCore → State
state_of c = held.state_of c.core

-- where no step was refused memory until the new state, these replies refuse none either
abbrev pub GotMemory : (old new : CheckedCore) → List Reply → Type 0
GotMemory old new replies =
    new.lacked ≡ false → (old.lacked ≡ false) × All (λ r. r ≢ reply.Refused OutOfMemory) replies
