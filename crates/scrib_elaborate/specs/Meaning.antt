-- The meaning of an elaborated protocol, and of the result of a call.
use Rattle.std.specs.Prelude.{◌≡◌, List, Result, Ok, Err}
use Rattle.scrib_types.specs.Agreement.{Agreement}
use Rattle.scrib_types.specs.GlobalView.{global_of}
use Rattle.scrib_elaborate.specs.declared.elaborated.Elaborated.{Elaborated}
use Rattle.scrib_elaborate.specs.declared.elaborated.ChoiceSite.{ChoiceSite}
use Rattle.scrib_static_checks.specs.declared.fault.ElaborateFault.{ElaborateFault}
use Rattle.scrib_static_checks.specs.declared.fault.ElaborateFault.TheVariants.{Broken, OutOfMemory}

-- the roles and the global type of an elaborated protocol
abbrev pub elaborated_meaning : Elaborated → Agreement
elaborated_meaning e = record { roles = e.roles; global = global_of e.global }

-- the choices that its communications with several branches come from
abbrev pub sites_of : Elaborated → List ChoiceSite
sites_of e = e.sites

-- the result means this, or memory was refused
abbrev pub ResultMeans : Result Elaborated ElaborateFault → Agreement → Type 0
ResultMeans (Ok e) a = elaborated_meaning e ≡ a
ResultMeans (Err (Broken f)) a = ⊥
ResultMeans (Err OutOfMemory) a = Unit {0}
