-- The script's fault behind a fault of a command (this project's own).
use Rattle.scrib_script_io.specs.declared.fault.ScriptFault.{ScriptFault}
use Rattle.scrib_script_io.specs.declared.fault.ScriptFault.TheVariants as fault
use Rattle.scrib_cli.specs.declared.commands.fault.CommandFault.{CommandFault}
use Rattle.scrib_cli.specs.declared.commands.fault.CommandFault.TheVariants as command

-- the script's fault behind a command's fault, without its source
abbrev pub script_fault : CommandFault → ScriptFault
script_fault (command.Unopened s) = fault.Read
script_fault (command.Unread s) = fault.Read
script_fault (command.TooLong s) = fault.Read
script_fault command.Unwritten = fault.Write
script_fault command.Unsettled = fault.Settle
script_fault command.OutOfMemory = fault.OutOfMemory
