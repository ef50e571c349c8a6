-- The machines of a protocol's roles.
use Rattle.std.specs.Prelude.{◌≡◌, ℕ, List, length, slice_get, Some}
use Rattle.scrib_types.specs.Agreement.{Agreement}
use Rattle.scrib_types.specs.declared.local.Local.{Local}
use Rattle.scrib_types.specs.LocalView.{local_of}
use Rattle.scrib_types.specs.Projection.{projection, widest}
use Rattle.scrib_types.specs.Trees.{LocalTree}
use Rattle.scrib_machine.specs.declared.machine.Edge.{Edge}
use Rattle.scrib_machine.specs.Machines.{IsMachine, HasTracesOf}

-- the machine's paths are exactly the traces of the local type
abbrev pub IsCompiled : Local → List (List Edge) → Type 0
IsCompiled local m = IsMachine m × HasTracesOf (local_of local) m

-- the machine follows the role's projection: its paths are exactly the traces of the projection
pub record IsMachineOf (a : Agreement) (role : List ℕ) (m : List (List Edge)) : Type 0 where
  pub local : LocalTree
  pub projected : projection widest role a.global ≡ Some local
  pub machine : IsMachine m
  pub follows : HasTracesOf local m

-- a machine for each role, in the order in which the roles are declared (this project's own)
pub record AreMachinesOf (a : Agreement) (ms : List (List (List Edge))) : Type 0 where
  pub count : length ms ≡ length a.roles
  pub each : (i : ℕ) (role : List ℕ) (m : List (List Edge)) → slice_get a.roles i ≡ Some role → slice_get ms i ≡ Some m
      → IsMachineOf a role m
