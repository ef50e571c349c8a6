-- The sends and receptions in a local type (this project's own).
-- Only contracts of private functions cite this file.
use Rattle.std.specs.Prelude.{ℕ, List, [], ◌∷◌, ◌++◌, Option, Some, None}
use Rattle.scrib_types.specs.declared.event.Action.{Action}
use Rattle.scrib_types.specs.declared.event.Action.TheVariants.{Sends, Receives}
use Rattle.scrib_types.specs.Trees.{LocalTree, LocalEnd, LocalVar, LocalRec, Send, Recv, LocalBranches, NoChoice, Choice}

-- the sends and receptions, in order
abbrev mutual
  pub named : LocalTree → List Action
  named LocalEnd = []
  named (LocalVar n) = []
  named (LocalRec body) = named body
  named (Send q ls) = named_sends q ls
  named (Recv p ls) = named_receptions p ls

  pub named_sends : List ℕ → LocalBranches → List Action
  named_sends q NoChoice = []
  named_sends q (Choice m l ls) = Sends q m ∷ named l ++ named_sends q ls

  pub named_receptions : List ℕ → LocalBranches → List Action
  named_receptions p NoChoice = []
  named_receptions p (Choice m l ls) = Receives p m ∷ named l ++ named_receptions p ls

-- those of the local type, if there is one
abbrev pub named_by : Option LocalTree → List Action
named_by None = []
named_by (Some l) = named l
