-- Faults of scripts (this project's own).
use Rattle.std.specs.Prelude.{Bool, true, false}
use Rattle.scrib_script_reader.specs.declared.fault.SpellFault.{SpellFault}
use Rattle.scrib_script_reader.specs.declared.fault.SpellFault.TheVariants as spell
use Rattle.scrib_script_io.specs.declared.fault.ScriptFault.{ScriptFault}
use Rattle.scrib_script_io.specs.declared.fault.ScriptFault.TheVariants as fault

-- the fault of a run for a fault of reading its script; a script past its limits is a read fault
abbrev pub fault_of : SpellFault → ScriptFault
fault_of spell.TooLong = fault.Read
fault_of spell.OutOfMemory = fault.OutOfMemory

-- whether the fault comes from writing or from refused memory
abbrev pub of_output : ScriptFault → Bool
of_output fault.Read = false
of_output fault.Write = true
of_output fault.Settle = false
of_output fault.OutOfMemory = true

-- whether a script over one monitor may end with the fault: all but the fault of a service that does not settle
abbrev pub of_script : ScriptFault → Bool
of_script fault.Read = true
of_script fault.Write = true
of_script fault.Settle = false
of_script fault.OutOfMemory = true
