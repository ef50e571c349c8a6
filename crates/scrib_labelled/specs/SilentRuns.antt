-- The run of a whole script whose replies are not written (this project's own). Only contracts of private functions
-- cite this file.
use Rattle.std.specs.Prelude.{List, ℕ, Option, IfSome}
use Rattle.scrib_core.specs.Answers.{State}
use Rattle.scrib_script_reader.specs.Limits.{IsWithinLimits, of_scripts}
use Rattle.scrib_labelled.specs.declared.label_options.LabelOptions.{LabelOptions}
use Rattle.scrib_labelled.specs.declared.named_monitor.NamedMonitor.{NamedMonitor}
use Rattle.scrib_labelled.specs.Behind.{behind}
use Rattle.scrib_labelled.specs.LabelledQueries.{LeavesBehind}
use Rattle.scrib_labelled.specs.LabelledRuns.{Naming}

-- the numbers of names behind a run
abbrev pub names_behind : NamedMonitor → Naming
names_behind n = (behind n).names

-- the state behind a run
abbrev pub state_behind : NamedMonitor → State
state_behind n = (behind n).state

-- the monitor carried out the whole script, where it is known, which is within the limits of scripts
abbrev pub RanSilently : LabelOptions → Option (List ℕ) → NamedMonitor → Type 0
RanSilently labels r n =
    IfSome r (λ input. LeavesBehind labels input (names_behind n) (state_behind n)
    × IsWithinLimits of_scripts input)
