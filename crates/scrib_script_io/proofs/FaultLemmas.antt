-- The origins of faults.
use Rattle.std.proofs.Common.{◌≡◌, ◌≢◌, ◌∙◌, true, false, Result, Ok, Err, refl, sym, ap}
use Rattle.std.specs.Prelude.{IfErr}
use Rattle.scrib_script_reader.specs.declared.fault.SpellFault.{SpellFault}
use Rattle.scrib_script_reader.specs.declared.fault.SpellFault.TheVariants as spell
use Rattle.scrib_script_io.specs.declared.fault.ScriptFault.{ScriptFault}
use Rattle.scrib_script_io.specs.declared.fault.ScriptFault.TheVariants as fault
use Rattle.scrib_script_io.specs.Faults.{fault_of, of_output, of_script}

pub written_of_output : {T : Type 0} (r : Result T ScriptFault) → IfErr r (λ e. e ≡ fault.Write) → IfErr r (λ e. of_output e ≡ true)
written_of_output (Ok v) h = tt
written_of_output (Err e) h = ap of_output h

pub memory_of_output : (f : ScriptFault) → f ≡ fault.OutOfMemory → of_output f ≡ true
memory_of_output f e = ap of_output e

pub output_not_read : (f : ScriptFault) → of_output f ≡ true → f ≢ fault.Read
output_not_read f h = λ read. let same : false ≡ true = sym (ap of_output read) ∙ h in cc

pub output_of_script : (f : ScriptFault) → of_output f ≡ true → of_script f ≡ true
output_of_script fault.Read h = refl
output_of_script fault.Write h = refl
output_of_script fault.Settle h = h
output_of_script fault.OutOfMemory h = refl

-- a fault of reading a script
pub spelled_of_script : (e : SpellFault) (f : ScriptFault) → f ≡ fault_of e → of_script f ≡ true
spelled_of_script spell.TooLong f is = ap of_script is
spelled_of_script spell.OutOfMemory f is = ap of_script is

-- a fault of reading a script that is the reader's
pub limit_reported : (e : SpellFault) (f : ScriptFault) → f ≡ fault_of e → f ≡ fault.Read → e ≡ spell.TooLong
limit_reported spell.TooLong f is read = refl
limit_reported spell.OutOfMemory f is read = let same : fault.OutOfMemory ≡ fault.Read = sym is ∙ read in cc

-- a fault of reading a script that is not the reader's
pub not_limit : (e : SpellFault) (f : ScriptFault) → f ≡ fault_of e → e ≡ spell.OutOfMemory → of_output f ≡ true
not_limit e f is other = ap of_output (is ∙ ap fault_of other)
